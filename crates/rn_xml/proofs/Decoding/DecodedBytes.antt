-- Bytes with the text that they are.
use Rattle.std.proofs.Common.{◌≡◌, ◌⊎◌, ℕ, true, List, [], ◌∷◌, ◌++◌, refl, sym, ap, ◌∙◌, subst, arith, inl, inr, ⊎_elim}
use Rattle.std.specs.Prelude.{Result, Ok, Err, IfOk, ◌&&◌, nat_le}
use Rattle.std.specs.Char.{is_ascii}
use Rattle.std.specs.List.{list_all}
use Rattle.std.specs.Str.{IsUtf8, chars}
use Rattle.std.proofs.lemmas.Bool.{and_parts}
use Rattle.std.proofs.lemmas.Bool.Decides.{nat_tests}
use Rattle.std.proofs.lemmas.Str.{encodes-chars}
use Rattle.rn_xml.specs.XmlCharacters.{lines_of}
use Rattle.rn_xml.specs.Encodings.{IsCalled, IsDecoded, IsIn, NamesEncoding, unmarked}
use Rattle.rn_xml.specs.inside.Declared.{IsDeclared}
use Rattle.rn_xml.specs.declared.xml_fault.Encoding.{Encoding}
use Rattle.rn_xml.specs.declared.xml_fault.Encoding.TheVariants.{Utf8, Utf16, Ascii}
use Rattle.rn_xml.proofs.Decoding.MovedDeclarations.{names_in_bytes}

-- what follows of a text that is answered
pub ok_then : {X Y : Type 0} (r : Result X Y) {P Q : X → Type 0} → IfOk r P → ((x : X) → P x → Q x) → IfOk r Q
ok_then (Ok x) h f = f x h
ok_then (Err e) h f = tt

-- UTF-8, where the whole was looked at for the declaration
pub in_utf8 : (whole bytes front text : List ℕ) (encoding : Encoding) → (encoding ≡ Utf8) ⊎ (encoding ≡ Utf16) → IsUtf8 text → unmarked whole ≡ bytes → text ≡ bytes → front ≡ bytes → IsDeclared front Utf8 encoding
    → IsDecoded whole text
in_utf8 whole bytes front text encoding kind u from is same h =
    let utf8 : encoding ≡ Utf8 = ⊎_elim (λ e. e) (λ e. let n : Utf8 ≡ Utf16 = h.only e in cc) kind in
    let declared = subst (λ t. IsDeclared t Utf8 encoding) (same ∙ sym is) h in
    record {
      encoding = Utf8;
      is_text = u;
      is_in = from ∙ sym is ∙ sym (encodes-chars text u);
      declared = ⊎_elim (λ n. inl (n.0, n.1, subst (λ e. IsCalled e n.0) utf8 n.2)) (λ n. inr (n.0, inl refl)) declared.named;
    }

-- an encoding of one byte for each character, of which UTF-8 alone is meant where none is named
pub in_bytes : (whole bytes front behind text : List ℕ) (encoding : Encoding) → ¬ (encoding ≡ Utf8) → IsIn encoding whole (chars text) → IsUtf8 text → IsUtf8 front → bytes ≡ front ++ behind → chars text ≡ bytes
    → IsDeclared front Utf8 encoding → IsDecoded whole text
in_bytes whole bytes front behind text encoding kind is u v split same h = record {
  encoding = encoding;
  is_text = u;
  is_in = is;
  declared = ⊎_elim
      (λ n. inl (n.0, subst (λ l. NamesEncoding (lines_of l) n.0) (sym same) (names_in_bytes front behind bytes n.0 v split n.1), n.2))
      (λ n. absurd (kind n.1))
      h.named;
}

all_ascii : (bs : List ℕ) → list_all (λ b. nat_le b 127) bs ≡ true → list_all is_ascii bs ≡ true
all_ascii [] h = refl
all_ascii (b ∷ bs) h = let first : is_ascii b ≡ true = small b (and_parts _ _ h).0 in ap (λ t. t && list_all is_ascii bs) first ∙ all_ascii bs (and_parts _ _ h).1
  where
    small : (b : ℕ) → nat_le b 127 ≡ true → is_ascii b ≡ true
    small b h = grind (arith, nat_tests)

pub in_ascii : (whole bytes text : List ℕ) → unmarked whole ≡ bytes → chars text ≡ bytes → list_all (λ b. nat_le b 127) bytes ≡ true → IsIn Ascii whole (chars text)
in_ascii whole bytes text from same small = (from ∙ sym same, ap (list_all is_ascii) same ∙ all_ascii bytes small)

-- UTF-16 behind its mark
pub in_units : (whole text : List ℕ) (encoding : Encoding) → IsIn Utf16 whole (chars text) → IsUtf8 text → IsDeclared text Utf16 encoding → IsDecoded whole text
in_units whole text encoding is u h = record {
  encoding = Utf16;
  is_text = u;
  is_in = is;
  declared = ⊎_elim (λ n. inl (n.0, n.1, subst (λ e. IsCalled e n.0) (h.fits refl) n.2)) (λ n. inr (n.0, inr refl)) h.named;
}
