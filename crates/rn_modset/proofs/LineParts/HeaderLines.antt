-- Header lines cut into their fields.
use Rattle.std.proofs.Common.{◌≡◌, ◌≢◌, ℕ, ◌<◌, ◌≤◌, ◌^◌, Bool, true, false, not, ◌==◌, List, ◌∷◌, ◌++◌, codes, decimal, Option, Some, None, MatchOption, refl, sym, ap, subst, ◌∙◌, arith, nat_le, get_or}
use Rattle.std.specs.List.{list_all}
use Rattle.std.proofs.lemmas.Fmt.{decimal_injective}
use Rattle.rn_modset.specs.declared.headers.HeaderLine.{HeaderLine}
use Rattle.rn_modset.specs.Contributions.{is_module_name}
use Rattle.rn_modset.specs.Bundles.{header_line, end_line}
use Rattle.rn_modset.specs.BundleGrammar.{Head, text_header, withdrawal_header}
use Rattle.rn_modset.specs.BundleGrammar.{IsDigest}
use Rattle.rn_modset.specs.inside.Headers.{MayStand, IsNoHeader, AreNoTextFields, IsNoWithdrawalField}
use Rattle.rn_modset.specs.inside.Headers.{header_view}
use Rattle.rn_modset.proofs.LineParts.LineFields.{Lacks, lacks_by, lacks_from_all, unsplit, one_cut, name_lacks, number_lacks}

abbrev pub kind_of : Head → List ℕ
kind_of (text_header name revision len digits) = codes "module"
kind_of (withdrawal_header name revision) = codes "withdrawn"

abbrev pub name_of : Head → List ℕ
name_of (text_header name revision len digits) = name
name_of (withdrawal_header name revision) = name

abbrev pub fields_of : Head → List ℕ
fields_of (text_header name revision len digits) = decimal revision ++ 32 ∷ (decimal len ++ 32 ∷ digits)
fields_of (withdrawal_header name revision) = decimal revision

pub head_is : (h : Head) → header_line h ≡ kind_of h ++ 32 ∷ (name_of h ++ 32 ∷ fields_of h)
head_is (text_header name revision len digits) = refl
head_is (withdrawal_header name revision) = refl

kind_lacks : (h : Head) → Lacks 32 (kind_of h)
kind_lacks (text_header name revision len digits) = lacks_by (λ c. nat_le 97 c) 32 refl (codes "module") refl
kind_lacks (withdrawal_header name revision) = lacks_by (λ c. nat_le 97 c) 32 refl (codes "withdrawn") refl

good_name : (w : Bool) (h : Head) → MayStand w h → is_module_name (name_of h) ≡ true
good_name w (text_header name revision len digits) m = m.0
good_name w (withdrawal_header name revision) m = m.0

-- a line without a space is no header
pub no_kind : (w : Bool) (line : List ℕ) → list_all (λ c. not (c == 32)) line ≡ true → IsNoHeader w line
no_kind w line l = λ h m e. unsplit 32 line (kind_of h) (name_of h ++ 32 ∷ fields_of h) (lacks_from_all 32 line l) (e ∙ head_is h)

-- the line cut at its first space, and what is behind at the next
pub record IsCut (line kind name fields : List ℕ) : Type 0 where
  pub rest : List ℕ
  pub first : line ≡ kind ++ 32 ∷ rest
  pub kind_lacks : list_all (λ c. not (c == 32)) kind ≡ true
  pub second : rest ≡ name ++ 32 ∷ fields
  pub name_lacks : list_all (λ c. not (c == 32)) name ≡ true

cut_kind : (line kind rest : List ℕ) (h : Head) → line ≡ kind ++ 32 ∷ rest → list_all (λ c. not (c == 32)) kind ≡ true → line ≡ header_line h → (kind ≡ kind_of h) × (rest ≡ name_of h ++ 32 ∷ fields_of h)
cut_kind line kind rest h e l is = one_cut 32 line kind rest (kind_of h) (name_of h ++ 32 ∷ fields_of h) e l (is ∙ head_is h) (kind_lacks h)

pub no_name : (w : Bool) (line kind rest : List ℕ) → line ≡ kind ++ 32 ∷ rest → list_all (λ c. not (c == 32)) kind ≡ true → list_all (λ c. not (c == 32)) rest ≡ true → IsNoHeader w line
no_name w line kind rest e l n = λ h m is. unsplit 32 rest (name_of h) (fields_of h) (lacks_from_all 32 rest n) (cut_kind line kind rest h e l is).1

pub record IsHeadCut (kind name fields : List ℕ) (h : Head) : Type 0 where
  pub same_kind : kind ≡ kind_of h
  pub same_name : name ≡ name_of h
  pub same_fields : fields ≡ fields_of h

pub head_cut : (w : Bool) (line kind name fields : List ℕ) (h : Head) → IsCut line kind name fields → MayStand w h → line ≡ header_line h → IsHeadCut kind name fields h
head_cut w line kind name fields h c m is =
    let outer = cut_kind line kind c.rest h c.first c.kind_lacks is in
    let inner = one_cut 32 c.rest name fields (name_of h) (fields_of h) c.second c.name_lacks outer.1 (name_lacks (name_of h) (good_name w h m)) in
    record { same_kind = outer.0; same_name = inner.0; same_fields = inner.1 }

pub bad_name : (w : Bool) (line kind name fields : List ℕ) → IsCut line kind name fields → is_module_name name ≡ false → IsNoHeader w line
bad_name w line kind name fields c n = λ h m is.
    let cut = head_cut w line kind name fields h c m is in
    let good : is_module_name name ≡ true = subst (λ x. is_module_name x ≡ true) (sym cut.same_name) (good_name w h m) in
    cc

module_not_withdrawn : codes "module" ≢ codes "withdrawn"
module_not_withdrawn e = let h : ◌≡◌ {A = ℕ} 109 119 = ap (λ (xs : List ℕ). get_or xs 0 0) e in absurd (omega arith)

-- a line of neither kind, or of a withdrawal where none may stand
pub no_such_kind : (w : Bool) (line kind name fields : List ℕ) → IsCut line kind name fields → kind ≢ codes "module" → (kind ≡ codes "withdrawn" → w ≢ true) → IsNoHeader w line
no_such_kind w line kind name fields c no_module no_withdrawal = λ h m is. by_kind h m (head_cut w line kind name fields h c m is)
  where
    by_kind : (h : Head) → MayStand w h → ¬ (IsHeadCut kind name fields h)
    by_kind (text_header n r l d) m cut = no_module cut.same_kind
    by_kind (withdrawal_header n r) m cut = no_withdrawal cut.same_kind m.2

abbrev IsHeaderOf : Bool → List ℕ → HeaderLine → Type 0
IsHeaderOf w line h = (line ≡ header_line (header_view h)) × MayStand w (header_view h)

pub whole_line : (line kind name fields : List ℕ) → IsCut line kind name fields → line ≡ kind ++ 32 ∷ (name ++ 32 ∷ fields)
whole_line line kind name fields c = c.first ∙ ap (λ t. kind ++ 32 ∷ t) c.second

-- the header of a text, by its other fields
pub text_by : (w : Bool) (line kind name fields : List ℕ) (r : Option HeaderLine) → IsCut line kind name fields → kind ≡ codes "module"
    → MatchOption r (AreNoTextFields fields) (λ h. (codes "module" ++ 32 ∷ (name ++ 32 ∷ fields) ≡ header_line (header_view h)) × ((v : Bool) → MayStand v (header_view h)))
    → MatchOption r (IsNoHeader w line) (IsHeaderOf w line)
text_by w line kind name fields (Some x) c k h = (whole_line line kind name fields c ∙ ap (λ t. t ++ 32 ∷ (name ++ 32 ∷ fields)) k ∙ h.0, h.1 w)
text_by w line kind name fields None c k h = λ x m is. by_kind x m (head_cut w line kind name fields x c m is)
  where
    by_kind : (x : Head) → MayStand w x → ¬ (IsHeadCut kind name fields x)
    by_kind (text_header n revision len digits) m cut = h revision len digits m.1 m.2 m.3 cut.same_fields
    by_kind (withdrawal_header n revision) m cut = module_not_withdrawn (sym k ∙ cut.same_kind)

-- the header of a withdrawal, by its other field
pub withdrawal_by : (line kind name fields : List ℕ) (r : Option HeaderLine) → IsCut line kind name fields → kind ≡ codes "withdrawn"
    → MatchOption r (IsNoWithdrawalField fields) (λ h. (codes "withdrawn" ++ 32 ∷ (name ++ 32 ∷ fields) ≡ header_line (header_view h)) × MayStand true (header_view h))
    → MatchOption r (IsNoHeader true line) (IsHeaderOf true line)
withdrawal_by line kind name fields (Some x) c k h = (whole_line line kind name fields c ∙ ap (λ t. t ++ 32 ∷ (name ++ 32 ∷ fields)) k ∙ h.0, h.1)
withdrawal_by line kind name fields None c k h = λ x m is. by_kind x m (head_cut true line kind name fields x c m is)
  where
    by_kind : (x : Head) → MayStand true x → ¬ (IsHeadCut kind name fields x)
    by_kind (text_header n revision len digits) m cut = module_not_withdrawn (sym cut.same_kind ∙ k)
    by_kind (withdrawal_header n revision) m cut = h revision m.1 cut.same_fields

-- the fields behind a text's name
pub no_revision : (fields : List ℕ) → list_all (λ c. not (c == 32)) fields ≡ true → AreNoTextFields fields
no_revision fields l = λ revision len digits r s d e. unsplit 32 fields (decimal revision) (decimal len ++ 32 ∷ digits) (lacks_from_all 32 fields l) e

revision_cut : (fields first rest : List ℕ) (revision : ℕ) (behind : List ℕ) → fields ≡ first ++ 32 ∷ rest → list_all (λ c. not (c == 32)) first ≡ true → revision < 2 ^ 64 → fields ≡ decimal revision ++ 32 ∷ behind
    → (first ≡ decimal revision) × (rest ≡ behind)
revision_cut fields first rest revision behind e l r is = one_cut 32 fields first rest (decimal revision) behind e l is (number_lacks 32 revision refl r)

pub no_length : (fields first rest : List ℕ) → fields ≡ first ++ 32 ∷ rest → list_all (λ c. not (c == 32)) first ≡ true → list_all (λ c. not (c == 32)) rest ≡ true → AreNoTextFields fields
no_length fields first rest e l n = λ revision len digits r s d is. unsplit 32 rest (decimal len) digits (lacks_from_all 32 rest n) (revision_cut fields first rest revision (decimal len ++ 32 ∷ digits) e l r is).1

-- the fields cut at both spaces
pub record AreCut (fields revision len digits : List ℕ) : Type 0 where
  pub rest : List ℕ
  pub first : fields ≡ revision ++ 32 ∷ rest
  pub revision_lacks : list_all (λ c. not (c == 32)) revision ≡ true
  pub second : rest ≡ len ++ 32 ∷ digits
  pub len_lacks : list_all (λ c. not (c == 32)) len ≡ true

pub record AreTheFields (revision len digits : List ℕ) (r l : ℕ) (d : List ℕ) : Type 0 where
  pub same_revision : revision ≡ decimal r
  pub same_len : len ≡ decimal l
  pub same_digits : digits ≡ d

pub fields_cut : (fields revision len digits : List ℕ) (r l : ℕ) (d : List ℕ) → AreCut fields revision len digits → r < 2 ^ 64 → l ≤ 4194304 → fields ≡ decimal r ++ 32 ∷ (decimal l ++ 32 ∷ d) → AreTheFields revision len digits r l d
fields_cut fields revision len digits r l d c small short is =
    let outer = revision_cut fields revision c.rest r (decimal l ++ 32 ∷ d) c.first c.revision_lacks small is in
    let inner = one_cut 32 c.rest len digits (decimal l) d c.second c.len_lacks outer.1 (number_lacks 32 l refl (omega arith)) in
    record { same_revision = outer.0; same_len = inner.0; same_digits = inner.1 }

pub bad_revision : (fields revision len digits : List ℕ) → AreCut fields revision len digits → ((n : ℕ) → n < 2 ^ 64 → revision ≢ decimal n) → AreNoTextFields fields
bad_revision fields revision len digits c n = λ r l d small short good is. n r small (fields_cut fields revision len digits r l d c small short is).same_revision

pub bad_length : (fields revision len digits : List ℕ) → AreCut fields revision len digits → ((n : ℕ) → n < 2 ^ 64 → len ≢ decimal n) → AreNoTextFields fields
bad_length fields revision len digits c n = λ r l d small short good is. n l (omega arith) (fields_cut fields revision len digits r l d c small short is).same_len

pub bad_limits : (fields revision len digits : List ℕ) (found : ℕ) → AreCut fields revision len digits → found < 2 ^ 64 → len ≡ decimal found → ((found ≤ 4194304) → IsDigest digits → ⊥) → AreNoTextFields fields
bad_limits fields revision len digits found c fits e n = λ r l d small short good is.
    let cut = fields_cut fields revision len digits r l d c small short is in
    let same : found ≡ l = decimal_injective found l fits (omega arith) (sym e ∙ cut.same_len) in
    n (omega arith) (subst IsDigest (sym cut.same_digits) good)

-- a line without a space is no last line
pub no_end : (line : List ℕ) (n : ℕ) → list_all (λ c. not (c == 32)) line ≡ true → line ≢ end_line n
no_end line n l e = unsplit 32 line (codes "end") (decimal n) (lacks_from_all 32 line l) e

-- a last line cut at its first space
pub end_cut : (line word count : List ℕ) (n : ℕ) → line ≡ word ++ 32 ∷ count → list_all (λ c. not (c == 32)) word ≡ true → line ≡ end_line n → (word ≡ codes "end") × (count ≡ decimal n)
end_cut line word count n e l is = one_cut 32 line word count (codes "end") (decimal n) e l is (lacks_by (λ c. nat_le 97 c) 32 refl (codes "end") refl)
