-- The prefixes so far are declared.
use Rattle.std.proofs.Common.{◌≡◌, take}
use Rattle.rn_translate.specs.inside.DraftTokens.{Writes}
use Rattle.rn_translate.specs.inside.PrintedTerms.{prefixes_tokens}
use Rattle.rn_translate.proofs.draft.Draft.declare_all.Given as goal

abbrev pub invariant-bound : goal.invariant-bound
invariant-bound l = record {
  source : l.self.source_len ≡ l.initial.self.source_len;
  tokens : Writes l.initial.self l.self (prefixes_tokens l.uris l.keyword l.letter 0 (take l.before l.prefixes.bound.items));
}
