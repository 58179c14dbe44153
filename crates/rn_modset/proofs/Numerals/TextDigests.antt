-- Digests are 64 digits in lower case, and those of a list stay beside its contributions.
use Rattle.std.proofs.Common.{◌≡◌, ℕ, zero, suc, ◌*◌, ◌/◌, ◌%◌, ◌<◌, ◌&&◌, Bool, true, false, List, [], ◌∷◌, ◌++◌, map, reverse, length, get_or, insert, Result, Ok, Err, OnOk, is_ok, is_err, refl, sym, ap, ◌∙◌, arith}
use Rattle.std.proofs.lemmas.Bool.{true≢false}
use Rattle.std.proofs.lemmas.List.{length-append, map-append, reverse-append}
use Rattle.std.specs.Prelude.{slice_index}
use Rattle.std.specs.Int.{to_be_bytes, w32}
use Rattle.std.specs.List.{list_all, flat_map, AllByRecursion}
use Rattle.hex.specs.Hex.{encode_with, lower_digits}
use Rattle.sha2.specs.Sha256.{digest_bytes, final_hash, initial_hash_256, sha256}
use Rattle.rn_modset.specs.declared.contribution.Contribution.{Contribution}
use Rattle.rn_modset.specs.Contributions.{member, members_of}
use Rattle.rn_modset.specs.Digests.{text_digest}
use Rattle.rn_modset.specs.Bundles.{digest}
use Rattle.rn_modset.specs.BundleGrammar.{IsDigest, is_lower_hex}
use Rattle.rn_modset.proofs.OrderedMembers.SearchedPlaces.{map_insert}
use Rattle.rn_modset.proofs.TestAnswers.TruthValues.{first_of_both, second_of_both}

length-digest_bytes : (h : List ℕ) (n : ℕ) → length (digest_bytes h n) ≡ n * 4
unfolding digest_bytes
length-digest_bytes h zero = refl
length-digest_bytes h (suc n) =
    let before = length-digest_bytes h n in
    let last : length (to_be_bytes w32 (slice_index h n)) ≡ 4 = refl in
    omega (arith, before, last, length-append (digest_bytes h n) (to_be_bytes w32 (slice_index h n)))

abbrev AreBytes : List ℕ → Type 0
AreBytes xs = AllByRecursion (λ x. x < 256) xs

bytes_append : (a b : List ℕ) → AreBytes a → AreBytes b → AreBytes (a ++ b)
bytes_append [] b h k = k
bytes_append (x ∷ a) b h k = (h.0, bytes_append a b h.1 k)

word_bytes : (x : ℕ) → AreBytes (to_be_bytes w32 x)
word_bytes x = (omega arith, (omega arith, (omega arith, (omega arith, tt))))

digest_are_bytes : (h : List ℕ) (n : ℕ) → AreBytes (digest_bytes h n)
unfolding digest_bytes
digest_are_bytes h zero = tt
digest_are_bytes h (suc n) = bytes_append (digest_bytes h n) (to_be_bytes w32 (slice_index h n)) (digest_are_bytes h n) (word_bytes (slice_index h n))

sha256_length : (text : List ℕ) → length (sha256 text) ≡ 32
unfolding sha256
sha256_length text = length-digest_bytes (final_hash initial_hash_256 text) 8

pub sha256_bytes : (text : List ℕ) → AreBytes (sha256 text)
unfolding sha256
sha256_bytes text = digest_are_bytes (final_hash initial_hash_256 text) 8

length-encode : (bytes : List ℕ) → length (encode_with lower_digits bytes) ≡ 2 * length bytes
unfolding encode_with
length-encode [] = refl
length-encode (b ∷ bytes) = omega (arith, length-encode bytes)

reads_pass : (p : ℕ → Bool) (xs : List ℕ) (n : ℕ) → list_all p xs ≡ true → n < length xs → p (get_or xs n 0) ≡ true
reads_pass p [] n h lt = absurd (omega arith)
reads_pass p (x ∷ xs) zero h lt = first_of_both (p x) _ h
reads_pass p (x ∷ xs) (suc n) h lt = reads_pass p xs n (second_of_both (p x) _ h) (omega arith)

digits_lower : list_all is_lower_hex lower_digits ≡ true
digits_lower = refl

both : (a b : Bool) → a ≡ true → b ≡ true → (a && b) ≡ true
both true b e f = f
both false b e f = cc

encode_lower_hex : (bytes : List ℕ) → AreBytes bytes → list_all is_lower_hex (encode_with lower_digits bytes) ≡ true
unfolding encode_with
encode_lower_hex [] h = refl
encode_lower_hex (b ∷ bytes) h =
    both _ _ (reads_pass is_lower_hex lower_digits (b / 16) digits_lower (omega (arith, h.0)))
    (both _ _ (reads_pass is_lower_hex lower_digits (b % 16) digits_lower (omega arith)) (encode_lower_hex bytes h.1))

pub digest_is : (text : List ℕ) → IsDigest (digest text)
digest_is text = (omega (arith, length-encode (sha256 text), sha256_length text), encode_lower_hex (sha256 text) (sha256_bytes text))

-- the digests of the contributions' texts
abbrev pub digests_of : List Contribution → List (List ℕ)
digests_of cs = map text_digest (members_of cs)

pub on_ok : {T E P : Type 0} (r : Result T E) → is_ok r ≡ true → OnOk r P → P
on_ok (Ok x) e h = h
on_ok (Err x) e h = cc

pub not_failed : {T E : Type 0} (r : Result T E) (b : Bool) → is_ok r ≡ true → b ≡ is_err r → b ≡ true → ⊥
not_failed (Ok x) b ok e h = true≢false (sym h ∙ e)
not_failed (Err x) b ok e h = cc

pub digests_insert : (digests : List (List ℕ)) (cs : List Contribution) (at : ℕ) (c : Contribution) → digests ≡ digests_of cs → insert digests at (text_digest (member c)) ≡ digests_of (insert cs at c)
digests_insert digests cs at c e = ap (λ z. insert z at (text_digest (member c))) e ∙ sym (ap (map text_digest) (map_insert member cs at c) ∙ map_insert text_digest (members_of cs) at (member c))

map_reverse : {A B : Type 0} (f : A → B) (xs : List A) → map f (reverse xs) ≡ reverse (map f xs)
map_reverse f [] = refl
map_reverse f (x ∷ xs) =
    ap (map f) (reverse-append (x ∷ []) xs) ∙ map-append f (reverse xs) (x ∷ []) ∙ ap (λ z. z ++ f x ∷ []) (map_reverse f xs) ∙ sym (reverse-append (f x ∷ []) (map f xs))

pub digests_reverse : (digests : List (List ℕ)) (cs : List Contribution) → digests ≡ digests_of cs → reverse digests ≡ digests_of (reverse cs)
digests_reverse digests cs e = ap reverse e ∙ sym (ap (map text_digest) (map_reverse member cs) ∙ map_reverse text_digest (members_of cs))

digest_of_at : (cs : List Contribution) (at : ℕ) (c : Contribution) (d : List ℕ) → at < length cs → c ≡ get_or cs at c → get_or (digests_of cs) at d ≡ text_digest (member c)
digest_of_at [] at c d lt is = absurd (omega arith)
digest_of_at (x ∷ cs) zero c d lt is = ap (λ z. text_digest (member z)) (sym is)
digest_of_at (x ∷ cs) (suc at) c d lt is = digest_of_at cs at c d (omega arith) is

-- the digest beside a contribution is that of its text
pub digest_at : (digests : List (List ℕ)) (cs : List Contribution) (at : ℕ) (c : Contribution) (d : List ℕ) → digests ≡ digests_of cs → at < length cs → c ≡ get_or cs at c → get_or digests at d ≡ text_digest (member c)
digest_at digests cs at c d e lt is = ap (λ z. get_or z at d) e ∙ digest_of_at cs at c d lt is

flat_map_map : {A B C : Type 0} (f : A → B) (g : B → List C) (xs : List A) → flat_map g (map f xs) ≡ flat_map (λ x. g (f x)) xs
flat_map_map f g [] = refl
flat_map_map f g (x ∷ xs) = ap (λ z. g (f x) ++ z) (flat_map_map f g xs)

-- the digests one after another
pub digests_flat : (digests : List (List ℕ)) (cs : List Contribution) → digests ≡ digests_of cs → flat_map (λ digest. digest) digests ≡ flat_map text_digest (members_of cs)
digests_flat digests cs e = ap (flat_map (λ digest. digest)) e ∙ flat_map_map text_digest (λ digest. digest) (members_of cs)
