use Rattle.std.proofs.Common.{◌≡◌, sym, ◌∙◌, subst, arith}
use Rattle.rn_text.specs.Texts.{Text, text_cmp}
use Rattle.rn_pattern.specs.References.{IsRecursive}
use Rattle.rn_assemble.specs.Combine.{joined_grammar}
use Rattle.rn_assemble.specs.Least.{IsLeast}
use Rattle.rn_assemble.specs.inside.ReferenceOrder.{IsKeyOrder}
use Rattle.rn_assemble.specs.inside.Views.{names_of}
use Rattle.rn_assemble.proofs.Answering.ReferenceRefusals.{name_there}
use Rattle.rn_assemble.proofs.assembly.check_references.Goals as goal

pub returns : goal.returns
returns c = λ modules cs o rows segments d.
    let names = names_of c.args.keys.now in
    let found = c.in_ok-references.ensures.found modules cs o rows segments d in
    let least = subst (λ k. IsKeyOrder names cs k) c.in-Recursive.is (c.in_ok-order.ensures names cs o found) in
    let name : c.name.result.now ≡ least.0 = c.name.ensures least.1.above (omega (arith, least.1.within)) ∙ name_there names least.0 c.in-Recursive.key.0 least.1 in
    (subst (λ (x : Text). IsLeast text_cmp (IsRecursive (joined_grammar cs)) x) (sym (c.in_ok-from_str-in-Recursive.ensures.ok ∙ name)) least.2, found.defined)

pub returns-in-Ordered : goal.returns-in-Ordered
returns-in-Ordered c = λ modules cs o rows segments d.
    let names = names_of c.args.keys.now in
    let found = c.in_ok-references.ensures.found modules cs o rows segments d in
    let ordered = subst (λ k. IsKeyOrder names cs k) c.in-Ordered.is (c.in_ok-order.ensures names cs o found) in
    (record { defined = found.defined; loop_free = ordered.0 }, ordered.1)
