use Rattle.std.proofs.Common.{◌≡◌, ◌++◌, map}
use Rattle.std.specs.Prelude.{string_bytes, filter}
use Rattle.rn_simplify.proofs.ReadBack.OrderedTexts.{AreApart}
use Rattle.rn_simplify.specs.Spelling.{is_other}
use Rattle.rn_simplify.proofs.declared_prefixes.declared_texts.Given as goal

abbrev pub invariant-loop-text : goal.invariant-loop-text
invariant-loop-text l = record {
  kept : map (λ u. string_bytes u) l.rest.keys ++ filter (is_other l.fn.known) (map (λ u. string_bytes u) l.text-iterator) ≡ filter (is_other l.fn.known) (map (λ u. string_bytes u) l.fn.texts.keys);
  apart : AreApart (map (λ u. string_bytes u) l.rest.keys ++ map (λ u. string_bytes u) l.text-iterator);
}
