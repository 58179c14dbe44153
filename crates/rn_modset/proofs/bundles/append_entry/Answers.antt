-- What is appended is the entry.
use Rattle.std.proofs.Common.{◌≡◌, ◌∙◌, string_bytes, ◌++◌, ◌∷◌, [], ℕ, List, length, ap, sym, append_assoc, decimal, codes, cond, is_ok, Result, Ok, Err, OnOk, Some, None}
use Rattle.std.specs.Option.{option_map}
use Rattle.rn_modset.specs.Bundles.{entry, digest}
use Rattle.hex.specs.Hex.{encode_lower}
use Rattle.rn_modset.specs.Contributions.{Member, member}
use Rattle.rn_modset.specs.Digests.{text_bytes}
use Rattle.sha2.specs.Sha256.{sha256}
use Rattle.rn_modset.proofs.bundles.append_entry.Goals as goal

ends_as : {T E : Type 0} (r : Result T E) (now more old all : List ℕ) → now ≡ cond (is_ok r) more old → more ≡ all → OnOk r (now ≡ all)
ends_as (Ok _) now more old all e h = e ∙ h
ends_as (Err _) now more old all e h = tt

-- from the line with its parts to the entry
text_entry : (m : Member) (out line name digits text : List ℕ) (len : ℕ) → m.text ≡ Some text → name ≡ m.name → len ≡ length text → digits ≡ digest text
    → line ≡ codes "module " ++ (name ++ 32 ∷ (decimal m.revision ++ 32 ∷ (decimal len ++ 32 ∷ (digits ++ 10 ∷ [])))) → ((out ++ line) ++ text) ++ 10 ∷ [] ≡ out ++ entry m
text_entry m out line name digits text len t n l d e = rw (t, e, n, l, d) (simp append_assoc)

withdrawn_entry : (m : Member) (out line name : List ℕ) → m.text ≡ None → name ≡ m.name
    → line ≡ codes "withdrawn " ++ (name ++ 32 ∷ (decimal m.revision ++ 10 ∷ [])) → out ++ line ≡ out ++ entry m
withdrawn_entry m out line name t n e = rw (t, e, n) (simp append_assoc)

pub returns-in_ok-extend_from_slice-in-Some-2 : goal.returns-in_ok-extend_from_slice-in-Some-2
returns-in_ok-extend_from_slice-in-Some-2 c =
    let out = c.args.out.now.items in
    let line : c.as_bytes.result.now ≡ _ = c.as_bytes.ensures.value ∙ c.in_ok-line-in-Some.ensures.ok in
    let text = ap (option_map (λ v. v.items)) c.in-Some.is in
    let digits : string_bytes c.in_ok-digits-in-Some.digits ≡ digest c.in-Some.text.items = c.in_ok-digits-in-Some.ensures ∙ ap encode_lower (c.requires ∙ ap (λ t. sha256 (text_bytes t)) text) in
    let all = c.in_ok-extend_from_slice-in-Some-2.ensures.items ∙ ap (λ z. z ++ c.as_slice.result.now) c.in_ok-extend_from_slice-in-Some.ensures.items
    ∙ ap (λ z. (out ++ c.as_bytes.result.now) ++ z) c.as_slice.ensures.value in
    ends_as c.extend_from_slice-in-Some-2.result _ _ _ _ c.extend_from_slice-in-Some-2.ensures.items
    (ap (λ z. z ++ 10 ∷ []) all ∙ text_entry (member c.args.contribution.now) out c.as_bytes.result.now c.as_str-name.result.now _ c.in-Some.text.items c.len-len.result
    text c.as_str-name.ensures.value (c.len-len.ensures ∙ sym c.as_slice.ensures.len ∙ ap length c.as_slice.ensures.value) digits line)

pub returns-in_ok-line-in-None : goal.returns-in_ok-line-in-None
returns-in_ok-line-in-None c =
    ends_as c.extend_from_slice-in-None.result _ _ _ _ c.extend_from_slice-in-None.ensures.items
    (withdrawn_entry (member c.args.contribution.now) c.args.out.now.items c.as_bytes-in-None.result.now c.as_str-name.result.now (ap (option_map (λ v. v.items)) c.in-None.is) c.as_str-name.ensures.value (c.as_bytes-in-None.ensures.value ∙ c.in_ok-line-in-None.ensures.ok))
