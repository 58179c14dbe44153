-- Keywords, and the bytes and characters that spell them.
use Rattle.std.proofs.Common.{arith, ◌≡◌, ◌≢◌, ℕ, true, false, List, [], ◌∷◌, refl, sym, ap, ◌∙◌, map, lit<, ltb-true}
use Rattle.std.proofs.lemmas.Bool.Decides.{nat_tests}
use Rattle.std.specs.Prelude.{Option, Some, None, MatchOption, ◌||◌, nat_lt, zero, suc}
use Rattle.std.specs.Option.{is_some}
use Rattle.std.specs.List.{list_all, list_any}
use Rattle.std.specs.Str.{IsUtf8, IsAscii, bytes_eq, chars, encode_utf8_all}
use Rattle.std.proofs.lemmas.Bool.{and_parts, false_from_ne_true}
use Rattle.std.proofs.lemmas.Slice.Eq.{bytes_eq-Decides}
use Rattle.std.proofs.lemmas.Str.{encodes-chars, chars-IsAscii, encodes-IsAscii}
use Rattle.rn_text.specs.declared.keywords.Keyword.{Keyword}
use Rattle.rn_text.specs.Keywords.{spelling, every_keyword}
use Rattle.rn_text.specs.Characters.{keywords, is_keyword}

-- the spelling of a keyword is listed, and its characters are ASCII
abbrev IsKnown : Keyword → Type 0
IsKnown w = (is_keyword (spelling w) ≡ true) × (list_all (λ c. nat_lt c 128) (spelling w) ≡ true)

known : (w : Keyword) → IsKnown w
unfolding is_keyword keywords
known w = grind (arith, nat_tests)

-- ---- the bytes that spell them

small : (cs : List ℕ) → list_all (λ c. nat_lt c 128) cs ≡ true → IsAscii cs
small [] e i = lit< tt
small (c ∷ cs) e zero = ltb-true c 128 (and_parts _ _ e).0
small (c ∷ cs) e (suc i) = small cs (and_parts _ _ e).1 i

spelling_chars : (w : Keyword) → chars (spelling w) ≡ spelling w
spelling_chars w = chars-IsAscii (spelling w) (small (spelling w) (known w).1)

-- what has the characters has the bytes
bytes_spelled : (w : Keyword) (bs : List ℕ) → IsUtf8 bs → chars bs ≡ spelling w → bs ≡ spelling w
bytes_spelled w bs u e = sym (encodes-chars bs u) ∙ ap encode_utf8_all e ∙ encodes-IsAscii (spelling w) (small (spelling w) (known w).1)

-- a keyword is the same in bytes and in characters
pub found_chars : (r : Option Keyword) (bs : List ℕ) → IsUtf8 bs → MatchOption r ((w : Keyword) → bs ≢ spelling w) (λ w. bs ≡ spelling w) → MatchOption r ((w : Keyword) → chars bs ≢ spelling w) (λ w. chars bs ≡ spelling w)
found_chars r bs h1 h2 = grind (arith, nat_tests, bytes_spelled, spelling_chars)

-- ---- what is one of them

unlisted : (ws : List Keyword) (cs : List ℕ) → ((w : Keyword) → cs ≢ spelling w) → list_any (λ w. bytes_eq w cs) (map spelling ws) ≡ false
unlisted [] cs none = refl
unlisted (w ∷ ws) cs none =
    let other : bytes_eq (spelling w) cs ≡ false = false_from_ne_true (bytes_eq (spelling w) cs) (λ e. none w (sym ((bytes_eq-Decides (spelling w) cs).0 e))) in
    ap (λ b. b || list_any (λ w. bytes_eq w cs) (map spelling ws)) other ∙ unlisted ws cs none

pub found_keyword : (r : Option Keyword) (cs : List ℕ) → MatchOption r ((w : Keyword) → cs ≢ spelling w) (λ w. cs ≡ spelling w) → is_some r ≡ is_keyword cs
unfolding is_keyword keywords
found_keyword None cs none = sym (unlisted every_keyword cs none)
found_keyword (Some w) cs e = sym (ap is_keyword e ∙ (known w).0)
