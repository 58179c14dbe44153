use Rattle.std.proofs.Common.{sym, ◌∙◌}
use Rattle.std.specs.Prelude.{string_bytes}
use Rattle.rn_simplify.proofs.ReadBack.Places.{place_found, place_missing}
use Rattle.rn_simplify.proofs.declared_prefixes.place_of.Goals as goal

pub returns-in-Some : goal.returns-in-Some
returns-in-Some c = place_found (λ k. string_bytes k) c.args.text.now c.args.texts.now.keys c.in-Some.i (sym c.get_index_of.ensures.index ∙ c.in-Some.is)

pub returns-in-None : goal.returns-in-None
returns-in-None c = c.len-count.ensures.len ∙ place_missing (λ k. string_bytes k) c.args.text.now c.args.texts.now.keys (sym c.get_index_of.ensures.index ∙ c.in-None.is)
