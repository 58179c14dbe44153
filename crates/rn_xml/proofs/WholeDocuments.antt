-- A document, by its parts.
use Rattle.std.proofs.Common.{◌≡◌, ℕ, List, length, ap, ◌∙◌, subst}
use Rattle.std.specs.Str.{chars}
use Rattle.std.proofs.lemmas.List.{nil_from_length}
use Rattle.std.proofs.lemmas.Str.{chars-nil}
use Rattle.rn_xml.specs.DocumentTrees.{IsReadFrom}
use Rattle.rn_xml.specs.XmlCharacters.{lines_of, AreMisc}
use Rattle.rn_xml.specs.XmlDocuments.{MayDeclare, document}
use Rattle.rn_xml.specs.declared.document.XmlDocument.{XmlDocument}
use Rattle.rn_xml.specs.inside.ReadDocuments.{IsRootRead}

pub document_read : (d : XmlDocument) (cs mid root behind : List ℕ) (rest : List ℕ) → MayDeclare (lines_of cs) mid → AreMisc mid root → IsRootRead root d behind → AreMisc behind (lines_of (chars rest)) → length rest ≡ 0 → IsReadFrom cs d
document_read d cs mid root behind rest declaration before (x, is, holds) after none = record {
  root = x;
  is_document = document declaration before is (subst (AreMisc behind) (ap (λ l. lines_of (chars l)) (nil_from_length rest none) ∙ ap lines_of chars-nil) after);
  holds = holds;
}
