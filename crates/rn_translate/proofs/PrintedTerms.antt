-- Terms that are printed one behind the other.
use Rattle.std.proofs.Common.{◌≡◌, ℕ, ◌+◌, ◌<◌, List, [], ◌∷◌, ◌++◌, length, get_or, take, ap, sym, ◌∙◌, append-nil, append_assoc, arith}
use Rattle.std.proofs.lemmas.List.{length-take-le, take_more}
use Rattle.rn_text.specs.declared.keywords.Keyword.{Keyword as Word}
use Rattle.rn_translate.specs.declared.prefixes.BoundUri.{BoundUri}
use Rattle.rn_translate.specs.declared.uris.Uris.{Uris}
use Rattle.rn_translate.specs.inside.PrintedTerms.{prefix_tokens, prefixes_tokens}

prefixes-append : (uris : Uris) (word : Word) (letter before : ℕ) (bs : List BoundUri) (b : BoundUri)
    → prefixes_tokens uris word letter before (bs ++ b ∷ []) ≡ prefixes_tokens uris word letter before bs ++ prefix_tokens uris word letter (before + length bs + 1) b.uri
prefixes-append uris word letter before [] b =
    append-nil (prefix_tokens uris word letter (before + 1) b.uri) ∙ ap (λ n. prefix_tokens uris word letter (n + 1) b.uri) (let same : before ≡ before + 0 = omega arith in same)
prefixes-append uris word letter before (x ∷ bs) b =
    let first = prefix_tokens uris word letter (before + 1) x.uri in
    ap (λ l. first ++ l) (prefixes-append uris word letter (before + 1) bs b)
    ∙ sym (append_assoc first (prefixes_tokens uris word letter (before + 1) bs) (prefix_tokens uris word letter (before + 1 + length bs + 1) b.uri))
    ∙ ap (λ n. (first ++ prefixes_tokens uris word letter (before + 1) bs) ++ prefix_tokens uris word letter n b.uri)
    (let same : before + 1 + length bs + 1 ≡ before + length (x ∷ bs) + 1 = omega arith in same)

pub prefixes_more : (uris : Uris) (word : Word) (letter : ℕ) (bs : List BoundUri) (i : ℕ) (b : BoundUri) → i < length bs
    → prefixes_tokens uris word letter 0 (take (i + 1) bs) ≡ prefixes_tokens uris word letter 0 (take i bs) ++ prefix_tokens uris word letter (i + 1) (get_or bs i b).uri
prefixes_more uris word letter bs i b h =
    ap (prefixes_tokens uris word letter 0) (take_more bs i b h)
    ∙ prefixes-append uris word letter 0 (take i bs) (get_or bs i b)
    ∙ ap (λ n. prefixes_tokens uris word letter 0 (take i bs) ++ prefix_tokens uris word letter n (get_or bs i b).uri)
    (let same : 0 + length (take i bs) + 1 ≡ i + 1 = omega (arith, length-take-le i bs (omega (arith, h))) in same)
