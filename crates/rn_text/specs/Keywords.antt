-- The keywords (RELAX NG Compact Syntax, appendix A, keyword).
use Rattle.std.specs.Prelude.{ℕ, List, [], ◌∷◌, codes}
use Rattle.rn_text.specs.declared.keywords.Keyword.{Keyword}
use Rattle.rn_text.specs.declared.keywords.Keyword.TheVariants as k

abbrev pub spelling : Keyword → List ℕ
spelling k.Attribute = codes "attribute"
spelling k.Default = codes "default"
spelling k.Datatypes = codes "datatypes"
spelling k.Div = codes "div"
spelling k.Element = codes "element"
spelling k.Empty = codes "empty"
spelling k.External = codes "external"
spelling k.Grammar = codes "grammar"
spelling k.Include = codes "include"
spelling k.Inherit = codes "inherit"
spelling k.List = codes "list"
spelling k.Mixed = codes "mixed"
spelling k.Namespace = codes "namespace"
spelling k.NotAllowed = codes "notAllowed"
spelling k.Parent = codes "parent"
spelling k.Start = codes "start"
spelling k.String = codes "string"
spelling k.Text = codes "text"
spelling k.Token = codes "token"

-- the 19 keywords, each once
abbrev pub every_keyword : List Keyword
every_keyword =
    k.Attribute ∷ k.Default ∷ k.Datatypes ∷ k.Div ∷ k.Element ∷ k.Empty ∷ k.External ∷ k.Grammar ∷ k.Include ∷ k.Inherit
    ∷ k.List ∷ k.Mixed ∷ k.Namespace ∷ k.NotAllowed ∷ k.Parent ∷ k.Start ∷ k.String ∷ k.Text ∷ k.Token ∷ []
