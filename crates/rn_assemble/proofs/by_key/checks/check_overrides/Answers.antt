use Rattle.std.proofs.Common.{◌≡◌, ◌<◌, List, length, Option, Some, sym, ◌∙◌, subst, arith, rules, Contains}
use Rattle.std.specs.List.Sorted.{IsStrictlySortedBy}
use Rattle.std.specs.Prelude.{IfSome}
use Rattle.std.specs.String.{string_bytes}
use Rattle.rn_text.specs.Texts.{Text, text_cmp}
use Rattle.rn_assemble.specs.Refusal.{Lacks}
use Rattle.rn_assemble.specs.Refused.{key_view}
use Rattle.rn_assemble.specs.declared.by_key.checks.Lack.{Lack}
use Rattle.rn_assemble.specs.declared.including.segments.FollowedInclude.{FollowedInclude}
use Rattle.rn_assemble.specs.inside.Bringing.{IsLackIn}
use Rattle.rn_assemble.specs.inside.Lacking.{IsLeastLack}
use Rattle.rn_assemble.specs.inside.Views.{names_of}
use Rattle.rn_assemble.proofs.KeyFaults.OverrideStands.{lack_alike, name_named_at, override_stands, same_length}
use Rattle.rn_assemble.proofs.by_key.checks.check_overrides.Goals as goal

-- the module of a lack is there
within : (c : goal.In-Some) → c.in-Some.lack.«module».0 < length c.args.modules.now
within c =
    let (ms, named, there) = c.requires.named in
    let rows = c.args.rows.now.rows.items in
    let brought = c.args.segments.now.brought.items in
    let is = subst (λ (o : Option Lack). IfSome o (λ (l : Lack). (l.key.0 < length rows) × ((b : FollowedInclude) × Contains brought b × (b.«module».0 ≡ l.«module».0)))) c.in-Some.is c.in_ok-least_lack.ensures.within in
    omega (arith, there is.1.0 is.1.1, is.1.2, same_length ms c.args.modules.now named)

pub offset_bounds-modules-lack : goal.offset_bounds-modules-lack
offset_bounds-modules-lack c = let w = within c in search (rules, w)

pub bounds-modules-lack : goal.bounds-modules-lack
bounds-modules-lack c = within c

pub bounds-modules-lack-in-Some : goal.bounds-modules-lack-in-Some
bounds-modules-lack-in-Some c = within c

pub returns-in-None : goal.returns-in-None
returns-in-None c = λ ms cs named o rows segments lacks.
    let names = names_of c.args.keys.now in
    let x = c.args.segments.now in
    let P = IsLackIn ms x.list.items x.brought.items in
    let mo = subst (λ (ns : List Text). IsStrictlySortedBy text_cmp ns) (sym named) c.requires.in_order in
    let least = subst (λ (l : Option Lack). IsLeastLack ms names P l) c.in-None.is (c.in_ok-least_lack.ensures.least ms names cs mo o rows segments) in
    λ y k l. least y k ((lacks y k).1 l)

pub returns-in_ok-key-in-Some : goal.returns-in_ok-key-in-Some
returns-in_ok-key-in-Some c = λ ms cs named o rows segments lacks.
    let names = names_of c.args.keys.now in
    let x = c.args.segments.now in
    let P = IsLackIn ms x.list.items x.brought.items in
    let l = c.in-Some.lack in
    let mo = subst (λ (ns : List Text). IsStrictlySortedBy text_cmp ns) (sym named) c.requires.in_order in
    let least = subst (λ (m : Option Lack). IsLeastLack ms names P m) c.in-Some.is (c.in_ok-least_lack.ensures.least ms names cs mo o rows segments) in
    let h = lack_alike ms names P (Lacks ms) lacks (Some l) least in
    let within : l.«module».0 < length c.args.modules.now = omega (arith, h.0, same_length ms c.args.modules.now named) in
    override_stands ms names l (string_bytes c.in_ok-from_str-in-Some.field-0) (key_view c.in_ok-key-in-Some.field-0) h
    (c.in_ok-from_str-in-Some.ensures.ok ∙ name_named_at ms c.args.modules.now named l.«module».0 c.index-modules-lack.result within)
    (c.in_ok-key-in-Some.ensures (omega (arith, h.1)))
