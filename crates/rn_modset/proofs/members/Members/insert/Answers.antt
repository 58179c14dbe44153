-- The digest is put in beside its contribution.
use Rattle.std.proofs.Common.{rules, ◌≡◌, true, is_ok, insert, ap, ◌∙◌}
use Rattle.rn_modset.proofs.Numerals.TextDigests.{digests_insert}
use Rattle.rn_modset.proofs.members.Members.insert.Goals as goal

pub returns-clause-digested : goal.returns-clause-digested
returns-clause-digested c =
    let ok : is_ok c.insert-2.result ≡ true = search rules in
    let cs = c.args.self.now.contributions.items in
    let digests : c.insert-2.new.self.items ≡ insert c.reserve.new.self.items c.args.at c.text_digest-digest.result = rw ok at c.insert-2.ensures.items in
    let all = digests ∙ ap (λ z. insert c.reserve.new.self.items c.args.at z) c.text_digest-digest.ensures ∙ digests_insert c.reserve.new.self.items cs c.args.at c.args.contribution (c.reserve.ensures.items ∙ c.requires.before) in
    rw c.in_default.ensures.items all
