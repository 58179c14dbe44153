use Rattle.std.proofs.Common.{◌≡◌, ◌⊎◌, inl, inr, ℕ, List, Option, Some, None, IfSome, length, sym, ap, ◌∙◌, subst, arith}
use Rattle.std.specs.Prelude.{Vec}
use Rattle.std.specs.Option.{unwrap_or}
use Rattle.std.specs.Rc.{rc_str_bytes}
use Rattle.std.specs.Borrow.{Bor}
use Rattle.std.specs.declared.alloc.Global.{Global}
use Rattle.rn_assemble.specs.declared.reading.contents.Contents.{Contents}
use Rattle.rn_assemble.specs.declared.including.segments.Segment.{Segment}
use Rattle.rn_assemble.specs.inside.Placing.{IsFirstOf, NotesPlace}
use Rattle.rn_assemble.proofs.Expansion.BroughtSegments.{if_ok_to}
use Rattle.rn_assemble.proofs.Expansion.SegmentPlaces.{adds_segment}
use Rattle.rn_assemble.proofs.including.segments.Segments.add.Goals as goal

-- what is found, or else the place
found_or : (o : Option ℕ) (d n : ℕ) (P : ℕ → Type 0) → n ≡ unwrap_or o d → IfSome o P → (n ≡ d) ⊎ P n
found_or None d n P e h = inl e
found_or (Some k) d n P e h = inr (subst P (sym e) h)

pub returns-clause-added : goal.returns-clause-added
returns-clause-added c = λ modules are can.
    let x = c.args.self.now in
    let y = c.note_place.new.self in
    let place : c.len-place.result ≡ length x.list.items = omega (arith, c.len-place.ensures) in
    let first = found_or c.first_like.result c.len-place.result c.unwrap_or-first.result (IsFirstOf x c.args.«module».0 c.args.number (rc_str_bytes c.args.context.inherited.now)) c.unwrap_or-first.ensures c.first_like.ensures in
    if_ok_to c.note_place.result
    (λ noted. adds_segment modules x y c.args.«module» c.args.number c.args.context c.args.from c.args.to c.unwrap_or-first.result are can
    (ap (λ (r : Bor (List Contents)). r.now) c.note_place.ensures.contents) (ap (λ (v : Vec Segment Global). v.items) c.note_place.ensures.list ∙ c.in_ok-push.ensures.items)
    (subst (λ n. NotesPlace x.places.items y.places.items c.args.«module».0 c.args.number n) place noted)
    (subst (λ n. (c.unwrap_or-first.result ≡ n) ⊎ IsFirstOf x c.args.«module».0 c.args.number (rc_str_bytes c.args.context.inherited.now) c.unwrap_or-first.result) place first))
    c.note_place.ensures.noted
