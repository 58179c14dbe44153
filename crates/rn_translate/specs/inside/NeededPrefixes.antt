-- The prefixes that terms need, each once, in the order in which they first need it (compact syntax, 3: declarations stand before all else).
use Rattle.std.specs.Prelude.{◌≡◌, ℕ, ◌==◌, ◌+◌, Bool, ◌||◌, not, if◌then◌else◌, List, [], ◌∷◌, ◌++◌, Option, Some, None, is_some, option_map, filter, map}
use Rattle.std.specs.List.{filter_map}
use Rattle.std.specs.BTreeMap.{get}
use Rattle.std.specs.Ordering.{nat_cmp}
use Rattle.rn_translate.specs.declared.prefixes.Prefixes.{Prefixes}
use Rattle.rn_translate.specs.declared.terms.Placed.{Placed}
use Rattle.rn_translate.specs.declared.terms.Term.{Term}
use Rattle.rn_translate.specs.declared.terms.Term.TheVariants as t
use Rattle.rn_translate.specs.declared.uris.Uri.{Uri}
use Rattle.rn_translate.specs.inside.PrintedTerms.{is_built_in}

-- ---- what a term needs

abbrev pub unless : Bool → Uri → Option Uri
unless b u = if b then None else Some u

-- the namespace whose prefix a term needs; `xml` is bound by itself (compact syntax, 2)
abbrev pub needed_namespace : Term → Option Uri
needed_namespace (t.Named u name) = unless (u.index == 2) u
needed_namespace (t.AnyOf u) = unless (u.index == 2) u
needed_namespace (t.Prefix u) = unless (u.index == 2) u
needed_namespace _ = None

-- the library whose prefix a term needs; `xsd` is bound by itself, and two datatypes are keywords (compact syntax, 2)
abbrev pub needed_library : Term → Option Uri
needed_library (t.Datatype u name) = unless (u.index == 3 || is_built_in u name.now) u
needed_library _ = None

abbrev pub needed_namespaces : List Placed → List Uri
needed_namespaces ps = filter_map (λ p. needed_namespace p.term) ps

abbrev pub needed_libraries : List Placed → List Uri
needed_libraries ps = filter_map (λ p. needed_library p.term) ps

-- ---- each once

abbrev pub is_uri : Uri → Uri → Bool
is_uri u v = v.index == u.index

-- each where it stands first
abbrev pub each_once : List Uri → List Uri
each_once [] = []
each_once (u ∷ us) = u ∷ filter (λ v. not (is_uri u v)) (each_once us)

-- the place of a URI among those, from 1 on
abbrev pub place_in : List Uri → Uri → Option ℕ
place_in [] u = None
place_in (v ∷ vs) u = if is_uri u v then Some 1 else option_map (λ n. n + 1) (place_in vs u)

-- with a URI behind the others, if it isn't among them
abbrev pub with_uri : List Uri → Option Uri → List Uri
with_uri us None = us
with_uri us (Some u) = if is_some (place_in us u) then us else us ++ u ∷ []

-- ---- prefixes that are bound

abbrev pub bound_uris : Prefixes → List Uri
bound_uris p = map (λ b. b.uri) p.bound.items

-- each has the number of its place
abbrev pub AreNumbered : Prefixes → Type 0
AreNumbered p = (u : Uri) → get nat_cmp p.numbers u.index ≡ place_in (bound_uris p) u

-- a URI is bound too, if it wasn't bound
pub record HasBound (old new : Prefixes) (needed : Option Uri) : Type 0 where
  pub numbered : AreNumbered new
  pub bound : bound_uris new ≡ with_uri (bound_uris old) needed

-- these are bound, in this order
pub record AreBound (p : Prefixes) (us : List Uri) : Type 0 where
  pub numbered : AreNumbered p
  pub bound : bound_uris p ≡ us
