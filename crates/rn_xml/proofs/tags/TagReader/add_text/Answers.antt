use Rattle.std.proofs.Common.{◌≡◌, ◌-◌, ◌∙◌, refl, arith}
use Rattle.rn_xml.proofs.Openings.OpenReaders.{adds_content}
use Rattle.rn_xml.proofs.tags.TagReader.add_text.Goals as goal

pub returns-clause-added : goal.returns-clause-added
returns-clause-added c = λ e outer place next open_is parent low below.
    let added = c.in_ok-add_text.ensures in
    let at : added.added.0.at ≡ c.args.self.now.len - c.args.left = added.added.3 in
    adds_content c.args.self.now _ e outer place next added.added.0 c.args.content added.added.4 open_is added.rest added.uris refl refl added.added.1 (added.added.2 ∙ parent) (omega arith) (omega arith) c.requires.some
