use Rattle.std.proofs.Common.{◌≡◌, [], ◌∷◌, ◌++◌, ap, sym, ◌∙◌, length, set, subst, Some}
use Rattle.std.specs.Prelude.{slice_get}
use Rattle.std.proofs.lemmas.List.{same_from_push}
use Rattle.rn_xml.specs.PrefixScopes.{IsLeft}
use Rattle.rn_xml.specs.TableRows.{rows_of}
use Rattle.rn_xml.specs.declared.document.XmlElement.{XmlElement}
use Rattle.rn_xml.specs.declared.document.XmlDocument.{XmlDocument}
use Rattle.rn_xml.specs.inside.OpenElements.{rows_opened}
use Rattle.rn_xml.proofs.Openings.OpenReaders.{closes_reader}
use Rattle.rn_xml.proofs.RowReads.{set_same}
use Rattle.rn_xml.proofs.tags.TagReader.close.Goals as goal

pub returns-clause-closed : goal.returns-clause-closed
returns-clause-closed c = λ e outer place open_is.
    let old = c.args.self.now.tables.document in
    let mid = c.end_element.new.self in
    let row : XmlElement = open_is.holds.0.row in
    let ends : XmlElement = record row { end = length old.elements.items } in
    let popped : c.args.self.now.opened.items ≡ c.pop.new.self.items ++ c.in-Some.index ∷ [] = c.in-Some.ensures.items in
    let both = same_from_push c.pop.new.self.items (rows_opened outer) c.in-Some.index e.index (sym popped ∙ open_is.rows) in
    let there : slice_get old.elements.items c.in-Some.index ≡ Some row = ap (λ i. slice_get old.elements.items i) both.1 ∙ open_is.holds.0.there in
    let ended : mid.document.elements.items ≡ set old.elements.items c.in-Some.index ends = c.end_element.ensures.ended row there in
    let ends_there : slice_get mid.document.elements.items c.in-Some.index ≡ Some ends = ap (λ l. slice_get l c.in-Some.index) ended ∙ set_same old.elements.items c.in-Some.index row ends there in
    let left : IsLeft c.args.self.now.scopes c.leave.new.self.scopes (rows_of row.declarations old.declarations.items) =
    subst (λ ds. IsLeft c.args.self.now.scopes c.leave.new.self.scopes (rows_of row.declarations ds)) (ap (λ (x : XmlDocument). x.declarations.items) c.end_element.ensures.rest) (c.leave.ensures.left ends ends_there) in
    closes_reader c.args.self.now c.leave.new.self e outer place open_is (ap (λ v. v.items) c.leave.ensures.opened ∙ both.0) (ap (λ t. t.uris) c.leave.ensures.tables ∙ c.end_element.ensures.uris)
    (subst (λ t. t.document ≡ record old { elements = t.document.elements }) (sym c.leave.ensures.tables) c.end_element.ensures.rest)
    (subst (λ t. t.document.elements.items ≡ set old.elements.items e.index ends) (sym c.leave.ensures.tables) (ended ∙ ap (λ i. set old.elements.items i ends) both.1)) left
