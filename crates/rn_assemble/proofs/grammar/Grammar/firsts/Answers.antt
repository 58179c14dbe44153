use Rattle.std.proofs.Common.{◌≡◌, ◌<◌, [], length, get_or, sym, ap, ◌∙◌, subst, arith}
use Rattle.std.proofs.lemmas.Bool.{ltb-true}
use Rattle.rn_assemble.specs.DefinitionsView.{definitions_view}
use Rattle.rn_assemble.specs.Firsts.{AreFirsts, joined_members}
use Rattle.rn_assemble.proofs.Joining.FirstMembers.{none_tied, row_there, tied_same}
use Rattle.rn_assemble.proofs.grammar.Grammar.firsts.Goals as goal

pub returns-in-Some : goal.returns-in-Some
returns-in-Some c = λ d l.
    let fs = c.args.self.now.firsts.items in
    let v = c.in-Some.firsts.now in
    let ds = definitions_view c.args.self.now.defs.entries in
    let there : v ≡ get_or fs c.args.number v = c.in-Some.ensures.lookup.1 ∙ ap (λ vs. get_or vs c.args.number v) c.deref.ensures.value in
    let within : c.args.number < length fs = omega (arith, ltb-true c.args.number (length c.deref.result.now) (sym c.in-Some.ensures.lookup.0), ap length c.deref.ensures.value) in
    subst (λ is. AreFirsts is (joined_members (get_or ds c.args.number d).1)) (row_there fs c.args.number v there within ∙ sym c.as_slice.ensures.value)
    (tied_same _ _ (c.args.self.now.tied c.args.number d l))

pub returns-in-None : goal.returns-in-None
returns-in-None c = λ d l. tied_same [] _ (none_tied _)
