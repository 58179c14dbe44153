-- Kinds of faults of module texts.
use Rattle.std.proofs.Common.{◌≡◌, ◌≢◌, ℕ, ◌+◌, ◌<◌, ⊎_elim, [], Option, Some, None, refl, ap, ◌∙◌, subst, arith}
use Rattle.std.proofs.lemmas.Bool.{cases_order}
use Rattle.rn_syntax.specs.declared.fault.FaultKind.{FaultKind}
use Rattle.rn_syntax.specs.declared.fault.FaultKind.TheVariants as kind
use Rattle.rn_syntax.specs.declared.fault.SyntaxFault.{SyntaxFault}
use Rattle.rn_syntax.specs.declared.fault.SyntaxFault.TheVariants as fault
use Rattle.rn_syntax.specs.Tree.{Module}
use Rattle.rn_syntax.specs.Faults.{kind_rank, kind_places, kind_and_place, HasNoFault, HasModuleFault, IsFirstOfKinds}
use Rattle.rn_syntax.specs.Places.{first, prefix_places, builtin_places, context_places, except_places}

-- ---- the order of the kinds

pub one_kind : (j k : FaultKind) → kind_rank j ≡ kind_rank k → j ≡ k
one_kind kind.Encoding kind.Encoding e = refl
one_kind kind.Lexical kind.Lexical e = refl
one_kind kind.Deep kind.Deep e = refl
one_kind kind.Syntax kind.Syntax e = refl
one_kind kind.Prefix kind.Prefix e = refl
one_kind kind.Builtin kind.Builtin e = refl
one_kind kind.ContextValue kind.ContextValue e = refl
one_kind kind.Except kind.Except e = refl
one_kind j k e = absurd (omega (arith, e))

-- what holds of the kinds before one and of it holds of those before the next
pub one_more : (P : FaultKind → Type 0) (k : FaultKind) → ((j : FaultKind) → kind_rank j < kind_rank k → P j) → P k → (j : FaultKind) → kind_rank j < kind_rank k + 1 → P j
one_more P k before here j l =
    ⊎_elim (λ e. subst P (one_kind k j (let s : kind_rank k ≡ kind_rank j = omega (arith, e) in s)) here) (⊎_elim (λ less. before j less) (λ more. absurd (omega (arith, l, more)))) (cases_order (kind_rank j) (kind_rank k))

-- ---- faults of each kind

-- the fault of a kind that a tree may have
abbrev pub fault_at : FaultKind → ℕ → SyntaxFault
fault_at kind.Builtin at = fault.Builtin at
fault_at kind.ContextValue at = fault.ContextValue at
fault_at kind.Except at = fault.Except at
fault_at kind.Syntax at = fault.Syntax at
fault_at kind.Deep at = fault.Deep at
fault_at _ at = fault.Prefix at

-- a fault is the one of its kind and place
abbrev fault_of : Option (FaultKind × ℕ) → SyntaxFault
fault_of (Some k) = fault_at k.0 k.1
fault_of None = fault.Memory

its_own : (e : SyntaxFault) → e ≡ fault_of (kind_and_place e)
its_own fault.Memory = refl
its_own e = refl

pub same_fault : (e : SyntaxFault) (k : FaultKind) (at : ℕ) → kind_and_place e ≡ Some (k, at) → e ≡ fault_at k at
same_fault e k at h = its_own e ∙ ap fault_of h

-- the fault of a kind at a place is no want of memory
pub no_memory : (k : FaultKind) (at : ℕ) → fault_at k at ≢ fault.Memory
no_memory kind.Encoding at e = cc
no_memory k at e = cc

-- the first fault of a tree is of a kind that trees have
pub fault_here : (m : Module) (k : FaultKind) (at : ℕ) → IsFirstOfKinds m k at → HasModuleFault m (fault_at k at)
fault_here m kind.Encoding at h = let none : ◌≡◌ {A = Option ℕ} None (Some at) = h.place in cc
fault_here m kind.Lexical at h = let none : ◌≡◌ {A = Option ℕ} None (Some at) = h.place in cc
fault_here m k at h = h

-- ---- trees without a fault

pub no_fault : (m : Module) → first (prefix_places m) ≡ None → first (builtin_places m) ≡ None → first (context_places m) ≡ None → first (except_places m) ≡ None → HasNoFault m
no_fault m p b c x kind.Prefix = p
no_fault m p b c x kind.Builtin = b
no_fault m p b c x kind.ContextValue = c
no_fault m p b c x kind.Except = x
no_fault m p b c x k = refl

pub no_places : (m : Module) → prefix_places m ≡ [] → builtin_places m ≡ [] → context_places m ≡ [] → except_places m ≡ [] → (k : FaultKind) → kind_places k m ≡ []
no_places m p b c x kind.Prefix = p
no_places m p b c x kind.Builtin = b
no_places m p b c x kind.ContextValue = c
no_places m p b c x kind.Except = x
no_places m p b c x k = refl

-- where no kind has a place, each of the four lists of places is empty
pub each_empty : (m : Module) → ((k : FaultKind) → kind_places k m ≡ []) → (prefix_places m ≡ []) × (builtin_places m ≡ []) × (context_places m ≡ []) × (except_places m ≡ [])
each_empty m none = (none kind.Prefix, none kind.Builtin, none kind.ContextValue, none kind.Except)
