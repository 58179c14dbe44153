use Rattle.std.proofs.Common.{refl, sym}
use Rattle.rn_simplify.proofs.Texts.GatheredTexts.{gathers_new, gathers_held}
use Rattle.rn_simplify.proofs.mentions.insert.Goals as goal

pub returns-in_ok-insert : goal.returns-in_ok-insert
returns-in_ok-insert c = gathers_new _ (λ k l. refl) c.args.text.now c.in_ok-from_str.field-0 c.args.texts.now c.insert.new.self c.in_ok-from_str.ensures.ok c.in_ok-insert.ensures.keys

pub returns-else-not-contains : goal.returns-else-not-contains
returns-else-not-contains c = gathers_held c.args.text.now c.args.texts.now (sym c.if-not-contains.ensures)
