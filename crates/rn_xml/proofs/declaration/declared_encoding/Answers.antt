use Rattle.std.proofs.Common.{◌≡◌, ◌++◌, ◌∙◌, ℕ, List, sym, codes}
use Rattle.std.specs.Prelude.{Option, Some, None, IfSome, MatchOption}
use Rattle.std.proofs.lemmas.Bool.{false≢true}
use Rattle.rn_xml.specs.XmlDocuments.{IsVersionNum, IsEncName}
use Rattle.rn_xml.specs.Encodings.{NamesEncoding}
use Rattle.rn_xml.specs.declared.declaration.Field.{Field}
use Rattle.rn_xml.specs.inside.Declared.{IsOnlyField, LacksField}
use Rattle.rn_xml.specs.inside.Pieces.{IsNamedField}
use Rattle.rn_xml.specs.inside.Rests.{source}
use Rattle.rn_xml.proofs.Decoding.NamedEncodings.{no_version, wrong_version, no_encoding, names_encoding}
use Rattle.rn_xml.proofs.declaration.declared_encoding.Goals as goal

pub returns-in_err-version-clause-cases : goal.returns-in_err-version-clause-cases
returns-in_err-version-clause-cases c =
    rw c.from_residual-in_err-version.ensures
    (no_version (source c.args.text.now) (source c.in_ok-inside_declaration.field-0.now) c.in_ok-inside_declaration.ensures.front c.in_err-version.ensures.only)

found : (cs inside number rest : List ℕ) → cs ≡ codes "<?xml" ++ inside → IsNamedField (codes "version") inside number rest → IsOnlyField (codes "version") inside number rest → IsVersionNum number
    → (r : Option Field)
    → MatchOption r (LacksField (codes "encoding") rest) (λ f. IsOnlyField (codes "encoding") rest (source f.value.now) (source f.rest.now))
    → IfSome r (λ f. IsNamedField (codes "encoding") rest (source f.value.now) (source f.rest.now))
    → MatchOption r ((name : List ℕ) → ¬ NamesEncoding cs name) (λ f. IsEncName (source f.value.now) → NamesEncoding cs (source f.value.now))
found cs inside number rest front v only n None lacks f = no_encoding cs inside front number rest only lacks
found cs inside number rest front v only n (Some r) lacks f = names_encoding cs inside front number rest (source r.value.now) (source r.rest.now) v n f

pub returns-then-is_version-clause-cases : goal.returns-then-is_version-clause-cases
returns-then-is_version-clause-cases c =
    found (source c.args.text.now) (source c.in_ok-inside_declaration.field-0.now) (source c.in_ok-version.version.value.now) (source c.in_ok-version.version.rest.now)
    c.in_ok-inside_declaration.ensures.front c.in_ok-version.ensures.field c.in_ok-version.ensures.only (c.is_version.ensures.0 c.if-is_version.true)
    c.split_field-then-is_version.result c.split_field-then-is_version.ensures.only c.split_field-then-is_version.ensures.field

pub returns-else-is_version-clause-cases : goal.returns-else-is_version-clause-cases
returns-else-is_version-clause-cases c =
    wrong_version (source c.args.text.now) (source c.in_ok-inside_declaration.field-0.now) c.in_ok-inside_declaration.ensures.front
    (source c.in_ok-version.version.value.now) (source c.in_ok-version.version.rest.now) c.in_ok-version.ensures.only
    (λ v. false≢true (sym c.if-is_version.false ∙ c.is_version.ensures.1 v))
