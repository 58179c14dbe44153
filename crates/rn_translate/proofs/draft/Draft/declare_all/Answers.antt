-- One more prefix is declared.
use Rattle.std.proofs.Common.{List, ◌∙◌, ◌+◌, ◌<◌, length, get_or, take, sym, subst, arith}
use Rattle.rn_translate.specs.declared.prefixes.BoundUri.{BoundUri}
use Rattle.rn_translate.specs.inside.DraftTokens.{Writes}
use Rattle.rn_translate.specs.inside.PrintedTerms.{prefix_tokens, prefixes_tokens}
use Rattle.rn_translate.proofs.PrintedTerms.{prefixes_more}
use Rattle.rn_translate.proofs.WrittenTokens.{writes_more}
use Rattle.rn_translate.proofs.draft.Draft.declare_all.Goals as goal

pub bound-preserved : goal.bound-preserved
bound-preserved c =
    let none : BoundUri = record { uri = record { index = 0 }; at = 0 } in
    let all = c.args.prefixes.now.bound.items in
    let i = c.bound.before in
    let within : i < length all = omega arith in
    let so_far = prefixes_tokens c.args.uris.now c.args.keyword c.args.letter 0 (take i all) in
    let step = prefix_tokens c.args.uris.now c.args.keyword c.args.letter (i + 1) (get_or all i none).uri in
    let written : Writes c.bound.self c.declare_prefix.new.self step =
    subst (λ (bs : List BoundUri). Writes c.bound.self c.declare_prefix.new.self (prefix_tokens c.args.uris.now c.args.keyword c.args.letter (i + 1) (get_or bs i none).uri))
    c.deref-it-items.ensures.value c.in_ok-declare_prefix.ensures.tokens in
    record {
      source = c.in_ok-declare_prefix.ensures.source ∙ c.bound.invariant.source;
      tokens = subst (Writes c.args.self.now c.declare_prefix.new.self) (sym (prefixes_more c.args.uris.now c.args.keyword c.args.letter all i none within))
          (writes_more c.args.self.now c.bound.self c.declare_prefix.new.self so_far step c.bound.invariant.tokens written);
    }
