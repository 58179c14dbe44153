-- A name has no white space and no colon: it stays as it is where white space is taken off its ends, and has no prefix.
use Rattle.std.proofs.lemmas.Bool.Decides.{nat_tests}
use Rattle.std.proofs.Common.{◌≡◌, ℕ, ◌+◌, ◌/◌, ◌%◌, ◌≤◌, Bool, true, not, ltb, List, [], ◌∷◌, refl, ap, ◌∙◌, subst, arith, Some, None}
use Rattle.std.specs.Prelude.{◌==◌, option_map, reverse}
use Rattle.std.specs.List.{list_all}
use Rattle.std.specs.Str.{chars, encode_utf8_all}
use Rattle.std.specs.Char.{encode_utf8}
use Rattle.std.proofs.lemmas.Bool.{and_parts, and_from, cond_both, cond-false, not-true}
use Rattle.std.proofs.lemmas.List.{reverse-append, reverse-reverse}
use Rattle.std.proofs.lemmas.Str.{encodes-chars}
use Rattle.rn_text.specs.Texts.{Text, is_white}
use Rattle.rn_text.specs.Characters.{is_name_start, is_name_char}
use Rattle.rn_text.proofs.Words.AppendedLists.{all_append}
use Rattle.rn_text.proofs.Cutting.NameTokens.{name_chars}
use Rattle.rn_pattern.specs.Tree.{name}
use Rattle.rn_assemble.specs.WritableTexts.{IsName}
use Rattle.rn_rng.specs.SchemaElements.{without_front, trimmed, in_front, prefix_and_local, split_name, qualified_name}

-- ---- bytes

abbrev is_black : ℕ → Bool
is_black b = not (is_white b)

abbrev is_no_colon : ℕ → Bool
is_no_colon b = not (b == 58)

-- what holds of each byte behind ASCII and each character of a name holds of each byte of a name
module _ (p : ℕ → Bool) (high : (b : ℕ) → 128 ≤ b → p b ≡ true) (low : (c : ℕ) → is_name_char c ≡ true → p c ≡ true) where
  following : (c : ℕ) (bs : List ℕ) → list_all p bs ≡ true → list_all p ((128 + c % 64) ∷ bs) ≡ true
  following c bs h = and_from (p (128 + c % 64)) (list_all p bs) (high (128 + c % 64) (omega arith)) h

  encoded : (c : ℕ) → is_name_char c ≡ true → list_all p (encode_utf8 c) ≡ true
  unfolding encode_utf8
  encoded c h =
      let one = following c [] refl in
      let two = following (c / 64) ((128 + c % 64) ∷ []) one in
      let three = following (c / 4096) ((128 + c / 64 % 64) ∷ (128 + c % 64) ∷ []) two in
      cond_both (ltb c 128) _ _ (λ bs. list_all p bs ≡ true) (λ e. and_from _ _ (low c h) refl)
      (λ e. cond_both (ltb c 2048) _ _ (λ bs. list_all p bs ≡ true) (λ f. and_from _ _ (high (192 + c / 64) (omega arith)) one)
      (λ f. cond_both (ltb c 65536) _ _ (λ bs. list_all p bs ≡ true) (λ g. and_from _ _ (high (224 + c / 4096) (omega arith)) two)
      (λ g. and_from _ _ (high (240 + c / 262144) (omega arith)) three)))

  all_encoded : (cs : List ℕ) → list_all is_name_char cs ≡ true → list_all p (encode_utf8_all cs) ≡ true
  all_encoded [] a = refl
  all_encoded (c ∷ cs) a = let both = and_parts (is_name_char c) (list_all is_name_char cs) a in all_append p (encode_utf8 c) (encode_utf8_all cs) (encoded c both.0) (all_encoded cs both.1)

  of_name : (x : Text) → IsName x → list_all p x ≡ true
  of_name x n = subst (λ s. list_all p s ≡ true) (encodes-chars x n.utf8) (all_encoded (chars x) (name_chars (chars x) n.is))

high_black : (b : ℕ) → 128 ≤ b → is_black b ≡ true
high_black b h = grind (arith, nat_tests)

high_no_colon : (b : ℕ) → 128 ≤ b → is_no_colon b ≡ true
high_no_colon b h = grind (arith, nat_tests)

char_black : (c : ℕ) → is_name_char c ≡ true → is_black c ≡ true
unfolding is_name_start is_name_char
char_black c h = grind (arith, nat_tests)

char_no_colon : (c : ℕ) → is_name_char c ≡ true → is_no_colon c ≡ true
unfolding is_name_start is_name_char
char_no_colon c h = grind (arith, nat_tests)

pub name_black : (x : Text) → IsName x → list_all is_black x ≡ true
name_black = of_name is_black high_black char_black

name_no_colon : (x : Text) → IsName x → list_all is_no_colon x ≡ true
name_no_colon = of_name is_no_colon high_no_colon char_no_colon

-- ---- white space

front_stays : (s : Text) → list_all is_black s ≡ true → without_front s ≡ s
front_stays [] h = refl
front_stays (c ∷ cs) h = cond-false (is_white c) (without_front cs) (c ∷ cs) (not-true (is_white c) (and_parts (is_black c) (list_all is_black cs) h).0)

reverse_black : (s : Text) → list_all is_black s ≡ true → list_all is_black (reverse s) ≡ true
reverse_black [] h = refl
reverse_black (c ∷ cs) h =
    let here = and_parts (is_black c) (list_all is_black cs) h in
    ap (list_all is_black) (reverse-append (c ∷ []) cs) ∙ all_append is_black (reverse cs) (c ∷ []) (reverse_black cs here.1) (and_from (is_black c) true here.0 refl)

pub trimmed_stays : (s : Text) → list_all is_black s ≡ true → trimmed s ≡ s
trimmed_stays s h = ap (λ t. reverse (without_front (reverse t))) (front_stays s h) ∙ (ap reverse (front_stays (reverse s) (reverse_black s h)) ∙ reverse-reverse s)

pub trimmed_name : (x : Text) → IsName x → trimmed x ≡ x
trimmed_name x n = trimmed_stays x (name_black x n)

-- ---- prefixes

no_prefix : (s : Text) → list_all is_no_colon s ≡ true → prefix_and_local s ≡ None
no_prefix [] h = refl
no_prefix (c ∷ cs) h =
    let here = and_parts (is_no_colon c) (list_all is_no_colon cs) h in
    cond-false (c == 58) _ _ (not-true (c == 58) here.0) ∙ ap (option_map (in_front c)) (no_prefix cs here.1)

pub plain_name : (ns x : Text) → IsName x → qualified_name ns x ≡ Some (name ns x)
plain_name ns x n = ap (λ o. split_name ns o x) (no_prefix x (name_no_colon x n))
