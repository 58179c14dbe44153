-- Small grammars and their texts, by computing.
use Rattle.std.proofs.Common.{◌≡◌, [], ◌∷◌, ◌++◌, refl}
use Rattle.std.specs.Prelude.{codes}
use Rattle.std.specs.Fmt.{digits}
use Rattle.std.specs.Str.{chars}
use Rattle.rn_text.specs.Characters.{is_keyword, keywords}
use Rattle.rn_text.specs.Parts.{text_of}
use Rattle.rn_pattern.specs.Tree.{Tree, NameTree, any_name_but, ns_name, name, name_choice, no_names, more_names, empty, text, ref, value, datum, datum_but, list, attribute, element, one_or_more, group, interleave, choice, more_trees}
use Rattle.rn_text.specs.Texts.{Text}
use Rattle.rn_pattern.specs.Matching.{Grammar}
use Rattle.rn_pattern.specs.Opened.{pair}
use Rattle.rn_syntax.specs.Places.{xsd_uri}
use Rattle.rn_simplify.specs.Spelling.{spelling_pieces}

local : Text → NameTree
local l = name [] l

a : Tree
a = ref (codes "a")

b : Tree
b = ref (codes "b")

line : Text → Text
line s = s ++ 10 ∷ []

abbrev only : Tree → Grammar
only p = record { start = p; definitions = [] }

alternatives : text_of (spelling_pieces (record { start = ref (codes "doc"); definitions = (codes "doc", choice (pair (element (local (codes "a")) empty) (element (local (codes "b")) text))) ∷ [] }))
    ≡ line (codes "default namespace = \"\"") ++ line (codes "start = doc") ++ line (codes "doc = element a { empty } | element b { text }")
unfolding chars is_keyword keywords local line
alternatives = refl

keyword_names : text_of (spelling_pieces (record { start = element (local (codes "r")) (ref (codes "start")); definitions = (codes "start", text) ∷ [] }))
    ≡ line (codes "default namespace = \"\"") ++ line (codes "start = element r { \\start }") ++ line (codes "\\start = text")
unfolding chars is_keyword keywords local line
keyword_names = refl

repetitions : text_of (spelling_pieces (only (element (local (codes "r")) (choice (pair empty (one_or_more (choice (pair empty text))))))))
    ≡ line (codes "default namespace = \"\"") ++ line (codes "start = element r { (text?)* }")
unfolding chars is_keyword keywords local line
repetitions = refl

types : text_of (spelling_pieces (only (element (local (codes "r")) (group (pair (choice (pair empty (attribute (local (codes "id")) (datum xsd_uri (codes "ID") [])))) (one_or_more (interleave (pair a b))))))))
    ≡ line (codes "default namespace = \"\"") ++ line (codes "start = element r { attribute id { xsd:ID }?, (a & b)+ }")
unfolding chars is_keyword keywords local line a b
types = refl

excepts : text_of (spelling_pieces (only (element (local (codes "b")) (datum_but [] (codes "string") [] (value [] (codes "string") (codes "no"))))))
    ≡ line (codes "default namespace = \"\"") ++ line (codes "start = element b { string - string \"no\" }")
unfolding chars is_keyword keywords local line
excepts = refl

libraries : text_of (spelling_pieces (only (element (local (codes "a")) (datum (codes "http://e/lib") (codes "t") ((codes "k", codes "v") ∷ [])))))
    ≡ line (codes "default namespace = \"\"") ++ line (codes "datatypes d1 = \"http://e/lib\"") ++ line (codes "start = element a { d1:t { k = \"v\" } }")
unfolding chars is_keyword keywords local line digits
libraries = refl

namespaces : text_of (spelling_pieces (only (element (ns_name []) (attribute (name (codes "http://www.w3.org/XML/1998/namespace") (codes "lang")) text))))
    ≡ line (codes "default namespace = \"\"") ++ line (codes "namespace n0 = \"\"") ++ line (codes "start = element n0:* { attribute xml:lang { text } }")
unfolding chars is_keyword keywords local line
namespaces = refl

classes : text_of (spelling_pieces (only (element (local (codes "r")) (attribute (any_name_but (name_choice (more_names (local (codes "p")) (more_names (name (codes "u") (codes "q")) no_names)))) text))))
    ≡ line (codes "default namespace = \"\"") ++ line (codes "namespace n1 = \"u\"") ++ line (codes "start = element r { attribute * - (p | n1:q) { text } }")
unfolding chars is_keyword keywords local line digits
classes = refl

mixed_content : text_of (spelling_pieces (only (group (pair (one_or_more (interleave (pair text a))) (interleave (more_trees text (pair a b)))))))
    ≡ line (codes "default namespace = \"\"") ++ line (codes "start = mixed { a }+, mixed { a & b }")
unfolding chars is_keyword keywords line a b
mixed_content = refl

literals : text_of (spelling_pieces (only (list (choice (pair (value [] (codes "token") (codes "a\"b" ++ 10 ∷ codes "c")) (value [] (codes "token") (codes "\\x{41}")))))))
    ≡ line (codes "default namespace = \"\"") ++ line (codes "start = list { \"a\" ~ '\"' ~ \"b\\x{A}c\" | \"\\\" ~ \"x{41}\" }")
unfolding chars is_keyword keywords line
literals = refl
