-- The name that is made of a path is read back by decoding its escapes, and is a module's name.
use Rattle.std.proofs.Common.{◌≡◌, ℕ, ◌≤◌, inl, inr, length, true, List, [], ◌∷◌, ◌++◌, ap, sym, ◌∙◌, arith}
use Rattle.std.specs.List.{list_all}
use Rattle.std.proofs.lemmas.List.Sums.{list_all-from_AllPass}
use Rattle.std.proofs.lemmas.Bool.Decides.{nat_tests}
use Rattle.std.specs.Prelude.{All}
use Rattle.std.proofs.lemmas.Bool.{cond_both, false≢true}
use Rattle.std.proofs.lemmas.List.Elements.{All-head, All-tail, All-nil, All-cons, All-append, All-weaker}
use Rattle.percent_encoding.specs.Percent.{percent_decode, percent_encode_byte}
use Rattle.percent_encoding.proofs.PercentLemmas.{IsEscapeByte, All-percent_encode_byte, percent_decode-nil, percent_decode_not_percent, percent_decode-percent_encode_byte}
use Rattle.rn_modset.specs.Contributions.{is_name_byte, is_module_name}
use Rattle.rn_modset.specs.Limits.{max_name}
use Rattle.rn_files.specs.ModuleNames.{IsByte, is_plain, plain_or_escaped, name_of}

plain_is_no_percent : (b : ℕ) → is_plain b ≡ true → b ≡ 37 → is_plain 37 ≡ true
plain_is_no_percent b h e = ap is_plain (sym e) ∙ h

-- a name read back
pub undone : (bs : List ℕ) → All IsByte bs → percent_decode (name_of bs) ≡ bs
undone [] h = percent_decode-nil
undone (b ∷ bs) h =
    let rest = name_of bs in
    let back = undone bs (All-tail IsByte b bs h) in
    cond_both (is_plain b) (b ∷ []) (percent_encode_byte b) (λ x. percent_decode (x ++ rest) ≡ b ∷ bs)
    (λ plain. percent_decode_not_percent b rest (λ e. false≢true (plain_is_no_percent b plain e)) ∙ ap (λ x. b ∷ x) back)
    (λ other. percent_decode-percent_encode_byte b rest (All-head IsByte b bs h) ∙ ap (λ x. b ∷ x) back)

pub names_differ : (a b : List ℕ) → All IsByte a → All IsByte b → name_of a ≡ name_of b → a ≡ b
names_differ a b small tiny e = sym (undone a small) ∙ ap percent_decode e ∙ undone b tiny

escape_is_named : (x : ℕ) → IsEscapeByte x → is_name_byte x ≡ true
escape_is_named x (inl e) = ap is_name_byte e
escape_is_named x (inr (inl h)) = grind (arith, nat_tests)
escape_is_named x (inr (inr h)) = grind (arith, nat_tests)

abbrev IsNamed : ℕ → Type 0
IsNamed b = is_name_byte b ≡ true

plain_is_named : (b : ℕ) → is_plain b ≡ true → is_name_byte b ≡ true
plain_is_named b h = grind (arith, nat_tests)

-- the bytes of a name are those of a module's name
all_named : (bs : List ℕ) → All IsNamed (name_of bs)
all_named [] = All-nil IsNamed
all_named (b ∷ bs) =
    All-append IsNamed (plain_or_escaped b) (name_of bs)
    (cond_both (is_plain b) (b ∷ []) (percent_encode_byte b) (λ x. All IsNamed x)
    (λ plain. All-cons IsNamed b [] (plain_is_named b plain) (All-nil IsNamed))
    (λ other. All-weaker IsEscapeByte IsNamed escape_is_named (percent_encode_byte b) (All-percent_encode_byte b)))
    (all_named bs)

pub name_is_named : (path : List ℕ) → 1 ≤ length (name_of path) → length (name_of path) ≤ max_name → is_module_name (name_of path) ≡ true
name_is_named path some few =
    let each : list_all is_name_byte (name_of path) ≡ true = list_all-from_AllPass is_name_byte (name_of path) (all_named path) in
    grind (arith, nat_tests, each)
