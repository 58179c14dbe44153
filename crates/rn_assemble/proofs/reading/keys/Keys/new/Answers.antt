use Rattle.std.proofs.Common.{◌≡◌, ◌+◌, ◌++◌, List, drop, sym, ap, ◌∙◌, subst, append_assoc, append-nil, arith}
use Rattle.std.specs.Prelude.{flat_map}
use Rattle.std.specs.List.Sorted.{IsStrictlySortedBy}
use Rattle.std.proofs.lemmas.Cmp.{nat_list_cmp_total}
use Rattle.std.proofs.lemmas.List.{at_drop_more, at_drop_all}
use Rattle.rn_text.specs.Texts.{Text, text_cmp}
use Rattle.rn_pattern.specs.Canonical.{sorted_once}
use Rattle.rn_pattern.proofs.Ordered.Ascending.{climbs_sorted_once}
use Rattle.rn_pattern.proofs.Ordered.Orders.{text_same}
use Rattle.rn_pattern.proofs.Ordered.SortedMembers.{sorted_once_members}
use Rattle.rn_syntax.specs.View.{items_view}
use Rattle.rn_assemble.specs.Components.{NamedModule}
use Rattle.rn_assemble.specs.declared.reading.named_modules.NamedModule as code_module
use Rattle.rn_assemble.specs.inside.Keyed.{texts_of, defines, AreNames}
use Rattle.rn_assemble.specs.inside.Views.{named_module_view, modules_view}
use Rattle.rn_assemble.proofs.reading.keys.Keys.new.Goals as goal
use Rattle.rn_assemble.proofs.reading.keys.Keys.new.Goals.{In_ok-put_in_order, In_ok-names}

-- the names that the modules define
abbrev all : List code_module.NamedModule → List Text
all ms = flat_map (λ (m : NamedModule). defines m.tree.items) (modules_view ms)

pub loop-module-preserved : goal.loop-module-preserved
loop-module-preserved c =
    let i = c.loop-module.module-index in
    let names = texts_of c.loop-module.names.items in
    let rest = all (drop (i + 1) c.args.modules.now) in
    record {
      so_far = ap (λ xs. xs ++ rest) (c.in_ok-push_names.ensures ∙ ap (λ xs. names ++ defines (items_view xs)) c.deref.ensures.value ∙ ap (λ m. names ++ defines (named_module_view m).tree.items) c.module-item.is)
          ∙ append_assoc _ _ rest ∙ ap (λ xs. names ++ xs) (sym (at_drop_more all c.args.modules.now i c.module-item.result c.loop-module-test.true)) ∙ c.loop-module.invariant.so_far;
    }

-- the names that are kept are those of all modules, in their order, each once
kept : (c : In_ok-put_in_order) → texts_of c.put_in_order.new.names.items ≡ sorted_once text_cmp (all c.args.modules.now)
kept c =
    let found = texts_of c.loop-module.names.items in
    let gathered : found ≡ all c.args.modules.now =
    sym (append-nil found) ∙ ap (λ xs. found ++ xs) (sym (at_drop_all all c.args.modules.now c.loop-module.module-index (omega arith))) ∙ c.loop-module.invariant.so_far in
    c.in_ok-put_in_order.ensures ∙ ap (sorted_once text_cmp) gathered

-- they are in order
in_order : (c : In_ok-put_in_order) → IsStrictlySortedBy text_cmp (texts_of c.put_in_order.new.names.items)
in_order c = subst (IsStrictlySortedBy text_cmp) (sym (kept c)) (climbs_sorted_once text_cmp nat_list_cmp_total text_same (all c.args.modules.now))

pub indexed-requires : goal.indexed-requires
indexed-requires c = subst (λ xs. IsStrictlySortedBy text_cmp (texts_of xs)) (sym c.as_slice.ensures.value) (in_order assumption)

held : (c : In_ok-names) → texts_of c.in_ok-names.names.keys ≡ sorted_once text_cmp (all c.args.modules.now)
held c = let before : In_ok-put_in_order = assumption in c.in_ok-names.ensures ∙ ap texts_of c.as_slice.ensures.value ∙ kept before

pub invariant_of-result : goal.invariant_of-result
invariant_of-result c = record {
  in_order = subst (IsStrictlySortedBy text_cmp) (sym (held assumption)) (climbs_sorted_once text_cmp nat_list_cmp_total text_same (all c.args.modules.now));
}

pub returns : goal.returns
returns c =
    let names = all c.args.modules.now in
    subst (AreNames (modules_view c.args.modules.now)) (sym (held assumption))
    (record { in_order = climbs_sorted_once text_cmp nat_list_cmp_total text_same names; defined = sorted_once_members text_cmp text_same names })
