-- What adding a segment does to the segments of a set and to the lists of their places.
use Rattle.std.specs.Prelude.{ℕ, ◌<◌, ◌≡◌, ◌≢◌, List, [], ◌∷◌, ◌++◌, length, slice_get, Some, Vec, Contains}
use Rattle.std.specs.declared.alloc.Global.{Global}
use Rattle.std.specs.Rc.{rc_str_bytes}
use Rattle.rn_text.specs.Texts.{Text}
use Rattle.rn_assemble.specs.Components.{NamedModule}
use Rattle.rn_assemble.specs.declared.reading.contents.Contents.{Contents}
use Rattle.rn_assemble.specs.declared.resolving.context.Context.{Context}
use Rattle.rn_assemble.specs.declared.including.segments.Segment.{Segment}
use Rattle.rn_assemble.specs.declared.including.segments.Segments.{Segments}
use Rattle.rn_assemble.specs.inside.Segments.{AreSegments, HavePlaces, places_at, places_in}

-- the list of that number, if there is one, got the place behind its own, and the others are as they were
pub record PushesAt (old new : List (Vec ℕ Global)) (j place : ℕ) : Type 0 where
  pub size : length new ≡ length old
  pub pushed : j < length old → places_in new j ≡ places_in old j ++ place ∷ []
  pub others : (i : ℕ) → i ≢ j → places_in new i ≡ places_in old i

-- the place came to the list of that number of a module, if there is one, and the others are as they were
pub record NotesPlace (old new : List (Vec (Vec ℕ Global) Global)) (m j place : ℕ) : Type 0 where
  pub sizes : (contents : List Contents) → HavePlaces contents old → HavePlaces contents new
  pub pushed : (numbers : Vec (Vec ℕ Global) Global) → slice_get old m ≡ Some numbers → j < length numbers.items → places_at new m j ≡ places_at old m j ++ place ∷ []
  pub others : (a b : ℕ) → ¬ ((a ≡ m) × (b ≡ j)) → places_at new a b ≡ places_at old a b

-- one of the segments that have that number among those of a module lies under the namespace, and has that `first`
pub record IsFirstOf (x : Segments) (m j : ℕ) (u : Text) (first : ℕ) : Type 0 where
  pub place : ℕ
  pub segment : Segment
  pub among : Contains (places_at x.places.items m j) place
  pub is : slice_get x.list.items place ≡ Some segment
  pub under : rc_str_bytes segment.context.inherited.now ≡ u
  pub first_is : segment.first ≡ first

-- a segment of a module was added behind the others
pub record AddsSegment (modules : List NamedModule) (old new : Segments) (m : ℕ) (context : Context) (from to : ℕ) : Type 0 where
  pub segment : Segment
  pub list_is : new.list.items ≡ old.list.items ++ segment ∷ []
  pub module_is : segment.module.0 ≡ m
  pub context_is : segment.context ≡ context
  pub from_is : segment.from ≡ from
  pub to_is : segment.to ≡ to
  pub are : AreSegments modules new
