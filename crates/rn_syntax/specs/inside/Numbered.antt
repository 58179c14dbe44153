-- What declarations bind: a prefix by one, the numbers by which maps of the code know those that bind, and the first that is wrong.
use Rattle.std.specs.Prelude.{◌≡◌, ℕ, Bool, false, List, [], Option, Some, None, map}
use Rattle.std.specs.Borrow.{Bor}
use Rattle.std.specs.Str.{bytes_eq}
use Rattle.std.specs.BTreeMap as tree
use Rattle.std.specs.BTreeMap.{BTreeMap}
use Rattle.rn_text.specs.Texts.{Text, text_cmp}
use Rattle.rn_syntax.specs.declared.tree.Declaration as code
use Rattle.rn_syntax.specs.Tree as t
use Rattle.rn_syntax.specs.Tree.{Declaration}
use Rattle.rn_syntax.specs.Places.{first, number_of, declarations_places}
use Rattle.rn_syntax.specs.View.{declaration_view}

abbrev pub is_prefix : Option (Bor Text) → Text → Bool
is_prefix None p = false
is_prefix (Some q) p = bytes_eq q.now p

abbrev pub library_text : Declaration → Option Text
library_text (t.datatypes q i s) = Some s
library_text (t.namespace q i u) = None
library_text (t.default i q u) = None

-- the number that the map has for a prefix
abbrev pub number_at : BTreeMap (Bor Text) ℕ → Text → Option ℕ
number_at numbers p = tree.get_by (λ k. text_cmp p k.now) numbers

-- for each prefix the map has the number of the first declaration that binds it
abbrev pub AreNumbers : (Text → Declaration → Bool) → BTreeMap (Bor Text) ℕ → List code.Declaration → Type 0
AreNumbers binds numbers ds = (p : Text) → number_at numbers p ≡ number_of (binds p) (map declaration_view ds)

-- the first place at which one of these declarations is wrong
abbrev pub wrong_declaration : List Declaration → Option ℕ
wrong_declaration ds = first (declarations_places [] ds)
