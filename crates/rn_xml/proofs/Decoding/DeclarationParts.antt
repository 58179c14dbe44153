-- The parts of the XML declaration, by its fields.
use Rattle.std.proofs.Common.{◌≡◌, ◌≢◌, ◌<◌, ◌-◌, ℕ, true, List, [], ◌∷◌, ◌++◌, length, get_or, take, drop, refl, sym, ap, ◌∙◌, subst, arith, Bor, Some, None}
use Rattle.std.specs.Prelude.{codes, EachIndex, Option, IfSome, MatchOption}
use Rattle.std.specs.Char.{is_ascii, is_ascii_alphabetic}
use Rattle.std.specs.List.{list_all}
use Rattle.std.specs.Str.{chars}
use Rattle.std.proofs.lemmas.Bool.{and_from}
use Rattle.std.proofs.lemmas.List.{take_all}
use Rattle.std.proofs.lemmas.Bool.Decides.{nat_tests}
use Rattle.rn_xml.specs.XmlCharacters.{lines_of, MaySpace}
use Rattle.rn_xml.specs.XmlDocuments.{IsVersionNum, IsVersionInfo, IsEncName, MayDeclareEncoding, MayBeStandalone, MayDeclare, is_encoding_char}
use Rattle.rn_xml.specs.XmlDocuments as d
use Rattle.rn_xml.specs.inside.Pieces.{IsNamedField, is_inner}
use Rattle.rn_xml.proofs.AsciiFronts.{ascii_chars}
use Rattle.rn_xml.proofs.Decoding.DeclarationVersions.{each_all}
use Rattle.rn_xml.proofs.Numbers.{all_pass_too}
use Rattle.rn_xml.proofs.Sources.{inner_lines, inner_front}

-- a word of ASCII without line ends is its own characters
pub plain_word : (word : List ℕ) → list_all is_ascii word ≡ true → list_all is_inner word ≡ true → lines_of (chars word) ≡ word
plain_word word ascii inner = ap lines_of (ascii_chars word ascii) ∙ inner_lines word inner

-- ---- names of encodings

pub letter_plain : (c : ℕ) → is_ascii_alphabetic c ≡ true → (is_ascii c ≡ true) × (is_inner c ≡ true)
letter_plain c h = (grind (arith, nat_tests), grind (arith, nat_tests))

pub encoding_ascii : (c : ℕ) → is_encoding_char c ≡ true → is_ascii c ≡ true
encoding_ascii c h = grind (arith, nat_tests)

pub encoding_inner : (c : ℕ) → is_encoding_char c ≡ true → is_inner c ≡ true
encoding_inner c h = grind (arith, nat_tests)

pub encoding_name : (text : List ℕ) → 0 < length text → is_ascii_alphabetic (get_or text 0 0) ≡ true → (let rest = take (length text - 1) (drop 1 text) in EachIndex rest (λ k. is_encoding_char (get_or rest k 0) ≡ true)) → IsEncName (lines_of (chars text))
encoding_name [] some first each = absurd (omega arith)
encoding_name (b ∷ bs) some first each = subst IsEncName (sym (plain_word (b ∷ bs) (and_from (is_ascii b) (list_all is_ascii bs) letter.0 (all_pass_too is_encoding_char is_ascii encoding_ascii bs all))
    (and_from (is_inner b) (list_all is_inner bs) letter.1 (all_pass_too is_encoding_char is_inner encoding_inner bs all)))) (d.IsEncName.name first all)
  where
    letter : (is_ascii b ≡ true) × (is_inner b ≡ true)
    letter = letter_plain b first

    all : list_all is_encoding_char bs ≡ true
    all = ap (list_all is_encoding_char) (sym (take_all (length (b ∷ bs) - 1) bs (omega arith))) ∙ each_all is_encoding_char (take (length (b ∷ bs) - 1) bs) each

-- ---- fields

pub encoding_read : (cs value rest : List ℕ) → IsNamedField (codes "encoding") cs value rest → IsEncName value → MayDeclareEncoding cs rest
encoding_read cs value rest f n = d.MayDeclareEncoding.encoding f.space f.equals f.quoted n

pub yes_read : (cs value rest : List ℕ) → IsNamedField (codes "standalone") cs value rest → value ≡ codes "yes" → MayBeStandalone cs rest
yes_read cs value rest f is = d.MayBeStandalone.yes f.space f.equals (subst (λ v. d.IsQuoted f.after v rest) is f.quoted)

pub no_read : (cs value rest : List ℕ) → IsNamedField (codes "standalone") cs value rest → value ≡ codes "no" → MayBeStandalone cs rest
no_read cs value rest f is = d.MayBeStandalone.no f.space f.equals (subst (λ v. d.IsQuoted f.after v rest) is f.quoted)

pub info_read : (cs value rest : List ℕ) → IsNamedField (codes "version") cs value rest → IsVersionNum value → IsVersionInfo cs rest
info_read cs value rest f n = d.IsVersionInfo.version f.space f.equals f.quoted n

pub inside_read : (cs mid after behind spaced : List ℕ) (r : Option (Bor (List ℕ))) → IsVersionInfo cs mid → MayDeclareEncoding mid after → MayBeStandalone after behind → MaySpace behind (lines_of spaced)
    → MatchOption r ((rest : List ℕ) → spaced ≢ codes "?>" ++ rest) (λ rest. spaced ≡ codes "?>" ++ chars rest.now) → IfSome r (λ rest. MayDeclare (codes "<?xml" ++ cs) (lines_of (chars rest.now)))
inside_read cs mid after behind spaced None v e s m h = tt
inside_read cs mid after behind spaced (Some rest) v e s m h = d.MayDeclare.declares v e s (subst (MaySpace behind) (ap lines_of h ∙ inner_front (codes "?>") (chars rest.now) refl) m)
