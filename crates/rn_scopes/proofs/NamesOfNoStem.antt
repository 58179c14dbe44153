-- Names that begin with no stem of a set and a dot.
use Rattle.std.proofs.Common.{◌≡◌, ℕ, ◌<◌, false, List, ◌∷◌, length, take, get_or, ap, subst, ◌∙◌, arith, length-append}
use Rattle.std.specs.Prelude.{slice_index, String}
use Rattle.std.specs.BTreeSet.{BTreeSet, contains_text}
use Rattle.std.specs.declared.alloc.Global.{Global}
use Rattle.std.proofs.Math.Seq.{take-append_seam, get_or-append_seam}
use Rattle.rn_scopes.specs.FreeNames.{IsNoOwn}

-- what stands before a dot ends with a dot behind it
pub no_own : (own : BTreeSet (String Global)) (name : List ℕ) → ((k : ℕ) → k < length name → slice_index name k ≡ 46 → contains_text own (take k name) ≡ false) → IsNoOwn own name
no_own own name f stem rest e =
    let front : take (length stem) name ≡ stem = ap (take (length stem)) e ∙ take-append_seam stem (46 ∷ rest) in
    let dot : slice_index name (length stem) ≡ 46 = ap (λ (t : List ℕ). get_or t (length stem) 0) e ∙ get_or-append_seam stem 46 rest 0 in
    let inside : length stem < length name = omega (arith, ap length e, length-append stem (46 ∷ rest)) in
    subst (λ (t : List ℕ). contains_text own t ≡ false) front (f (length stem) inside dot)
