use Rattle.std.proofs.Common.{◌≡◌, ℕ, ◌+◌, ◌<◌, ◌≤◌, List, [], ◌∷◌, get_or, length, Option, refl, sym, ap, ◌∙◌, subst, arith, ◌-◌}
use Rattle.std.specs.HashMap.{HashMap}
use Rattle.std.specs.Prelude.{String, Vec}
use Rattle.std.proofs.lemmas.List.{map-append, get_or-map, length-map}
use Rattle.std.specs.declared.alloc.Global.{Global}
use Rattle.rn_pattern.specs.View.{pattern_view}
use Rattle.rn_pattern.specs.declared.tree.Pattern.{Pattern}
use Rattle.rn_text.specs.Texts.{Text}
use Rattle.rn_assemble.specs.Components.{Component}
use Rattle.rn_assemble.specs.DefinitionsView.{definitions_view}
use Rattle.rn_assemble.specs.Least.{IsLeast, key_cmp}
use Rattle.rn_assemble.specs.Refusal.{BreaksNameRules}
use Rattle.rn_assemble.specs.declared.reading.key_rows.WrittenComponent as code
use Rattle.rn_assemble.specs.declared.reading.keys.KeyId.{KeyId}
use Rattle.rn_assemble.specs.inside.Keyed.{key_at}
use Rattle.rn_assemble.specs.inside.Patterns.{IsJoined, lesser}
use Rattle.rn_assemble.specs.inside.Rows.{IsRowOf, KeepsRowsBut, row_at}
use Rattle.rn_assemble.specs.inside.Tied.{firsts_of}
use Rattle.rn_assemble.specs.inside.Views.{key_number, key_numbers, names_of}
use Rattle.rn_assemble.proofs.Joining.KeyedDefinitions.{Defining, defining_ends, defining_more, defining_noted, key_above, key_name, key_within, noted_least, row_left}
use Rattle.rn_assemble.proofs.by_key.combining.definitions.Goals as goal
use Rattle.rn_assemble.proofs.by_key.combining.definitions.Goals.{in-Some+in_ok-push-in-Some+in_ok-define-in-Some, in-None}

-- what stands behind a branch stands where the branches join
module _ {S : Type 0} (names : List Text) (cs : List Component) (keys : List ℕ) (first now : List (Vec code.WrittenComponent Global)) (i : ℕ) where
  abbrev Stands : HashMap (String Global) Pattern S → Vec (Vec ℕ Global) Global → Option ℕ → Type 0
  Stands ds rs least = Defining names cs keys first now least (definitions_view ds.entries) (firsts_of rs.items) i

  joined : (ds ds' : HashMap (String Global) Pattern S) (rs rs' : Vec (Vec ℕ Global) Global) (least least' : Option ℕ) → ds ≡ ds' → rs ≡ rs' → least ≡ least' → Stands ds' rs' least' → Stands ds rs least
  joined ds ds' rs rs' least least' d r l h = subst (λ y. Stands y rs least) (sym d) (subst (λ y. Stands ds' y least) (sym r) (subst (Stands ds' rs') (sym l) h))

pub join_key-requires : goal.join_key-requires
join_key-requires c =
    let (ms, cs, o, r, h, d) = c.requires in
    let names = names_of c.args.keys.now in
    let keys = key_numbers c.args.defined.now in
    let now = c.loop-key.rows.rows.items in
    let i = c.loop-key.key-index in
    let there : i < length keys = omega (arith, c.loop-key-test.true, length-map c.args.defined.now (λ (k : KeyId). k.0)) in
    let is = get_or-map (λ (k : KeyId). k.0) c.args.defined.now i (record { 0 = 0 }) 0 c.loop-key-test.true in
    let key = key_at names (get_or keys i 0) in
    let old = c.loop-key.invariant ms cs o r h d in
    record {
      modules = ms;
      key = key;
      components = cs;
      row_is = subst (IsRowOf ms key) (sym (c.as_slice.ensures.value ∙ c.take-row.ensures.taken ∙ ap (row_at now) (sym is)))
          (row_left names cs keys d ms c.args.rows.now.rows.items now (key_number c.loop-key.least) (definitions_view c.loop-key.defs.entries) (firsts_of c.loop-key.firsts.items) i there r old);
      segments_are = h;
    }

pub loop-key-preserved : goal.loop-key-preserved
loop-key-preserved c = λ ms cs o r h d.
    let names = names_of c.args.keys.now in
    let keys = key_numbers c.args.defined.now in
    let first = c.args.rows.now.rows.items in
    let now = c.loop-key.rows.rows.items in
    let then = c.take-row.new.self.rows.items in
    let least = key_number c.loop-key.least in
    let ds = definitions_view c.loop-key.defs.entries in
    let rows = firsts_of c.loop-key.firsts.items in
    let i = c.loop-key.key-index in
    let l : i < length keys = omega (arith, c.loop-key-test.true, length-map c.args.defined.now (λ (k : KeyId). k.0)) in
    let is = get_or-map (λ (k : KeyId). k.0) c.args.defined.now i (record { 0 = 0 }) 0 c.loop-key-test.true in
    let others = subst (λ n. KeepsRowsBut n now then) (sym is) c.take-row.ensures.others in
    let key = key_at names (get_or keys i 0) in
    let old = c.loop-key.invariant ms cs o r h d in
    let row = subst (IsRowOf ms key) (sym (c.as_slice.ensures.value ∙ c.take-row.ensures.taken ∙ ap (row_at now) (sym is))) (row_left names cs keys d ms first now least ds rows i l r old) in
    let found = c.in_ok-joined.ensures ms key cs row h in
    elim c.match-branch-4.branch [
      | in-Some+in_ok-push-in-Some+in_ok-define-in-Some w ↦
          let kept = subst (IsJoined cs key) w.in-Some.is found in
          let name = w.name.ensures (omega (arith, key_above names cs keys d i l, is)) (omega (arith, key_within names cs keys d i l, is)) ∙ ap (λ n. get_or names (n - 1) []) (sym is) ∙ key_name names cs keys d i l in
          let pushed = ap firsts_of w.in_ok-push-in-Some.ensures.items ∙ map-append (λ (v : Vec ℕ Global). v.items) c.loop-key.firsts.items (w.in-Some.joined.firsts ∷ []) in
          let put_ds = definitions_view w.define.new.defs.entries in
          let put_rows = firsts_of w.push.new.self.items in
          let more = defining_more names cs keys d first now least ds rows i l old then put_ds put_rows w.in-Some.joined.firsts.items w.name.result.now (pattern_view w.in-Some.joined.pattern) name kept.0 kept.1 others w.in_ok-define-in-Some.ensures pushed kept.2 in
          joined names cs keys first then (i + 1) _ _ _ _ _ _ w.defs-is w.firsts-is (ap key_number w.least-is) more
      | in-None w ↦
          let breaks = subst (IsJoined cs key) w.in-None.is found in
          let more = defining_noted names cs keys d first now least ds rows i l old then breaks others in
          joined names cs keys first then (i + 1) _ _ _ _ _ _ w.defs-is w.firsts-is (ap key_number w.least-is ∙ w.lesser.ensures ∙ ap (λ n. lesser n least) (sym is)) more
    ]

pub returns-in_ok-key-in-Some-least : goal.returns-in_ok-key-in-Some-least
returns-in_ok-key-in-Some-least c = λ ms cs o r h d keeps.
    let names = names_of c.args.keys.now in
    let keys = key_numbers c.args.defined.now in
    let first = c.args.rows.now.rows.items in
    let now = c.loop-key.rows.rows.items in
    let ds = definitions_view c.loop-key.defs.entries in
    let firsts = c.loop-key.firsts.items in
    let i = c.loop-key.key-index in
    let n = c.in-Some-least.key.0 in
    let past : length keys ≤ i = omega (arith, c.loop-key-test.false, length-map c.args.defined.now (λ (k : KeyId). k.0)) in
    let end = subst (λ (m : Option KeyId). Defining names cs keys first now (key_number m) ds (firsts_of firsts) i) c.in-Some-least.is (c.loop-key.invariant ms cs o r h d) in
    subst (IsLeast key_cmp (BreaksNameRules cs)) (sym (c.in_ok-key-in-Some-least.ensures (omega (arith, end.breaks.0)))) (noted_least names cs o keys d keeps first now ds firsts i past n end)

pub returns-in-None-least : goal.returns-in-None-least
returns-in-None-least c = λ ms cs o r h d keeps.
    let names = names_of c.args.keys.now in
    let keys = key_numbers c.args.defined.now in
    let ds = definitions_view c.loop-key.defs.entries in
    let past : length keys ≤ c.loop-key.key-index = omega (arith, c.loop-key-test.false, length-map c.args.defined.now (λ (k : KeyId). k.0)) in
    defining_ends names cs o keys d keeps c.args.rows.now.rows.items c.loop-key.rows.rows.items ds c.loop-key.firsts.items c.loop-key.key-index past
    (key_number c.loop-key.least) c.loop-key.defs.entries (c.loop-key.invariant ms cs o r h d) (ap key_number c.in-None-least.is) refl
