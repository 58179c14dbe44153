-- The terms so far are printed.
use Rattle.std.proofs.Common.{◌≡◌, take}
use Rattle.rn_translate.specs.inside.DraftTokens.{Writes}
use Rattle.rn_translate.specs.inside.PrintedTerms.{terms_tokens}
use Rattle.rn_translate.proofs.draft.Draft.put_terms.Given as goal

abbrev pub invariant-terms : goal.invariant-terms
invariant-terms l = record {
  source : l.self.source_len ≡ l.initial.self.source_len;
  tokens : Writes l.initial.self l.self (terms_tokens l.declared (take l.placed-index l.terms));
}
