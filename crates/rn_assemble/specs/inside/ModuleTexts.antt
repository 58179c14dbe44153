-- What the text of one module gives: its tree, or its first fault.
use Rattle.std.specs.Prelude.{◌≡◌, MatchOption}
use Rattle.rn_text.specs.Texts.{Text}
use Rattle.rn_syntax.specs.Tree.{Module}
use Rattle.rn_syntax.specs.declared.fault.FaultKind.{FaultKind}
use Rattle.rn_assemble.specs.declared.refusal.Refusal as code
use Rattle.rn_assemble.specs.declared.refusal.Refusal.TheVariants as r
use Rattle.rn_assemble.specs.Refusal.{HasTextFault, IsFirstFault, IsModuleOf, faulty}
use Rattle.rn_assemble.specs.Refused.{refusal_view}

-- the text is a module of this tree, and has no fault
pub record IsRead (text : Text) (m : Module) : Type 0 where
  pub is_module : IsModuleOf text m
  pub faultless : (f : FaultKind) → ¬ HasTextFault text f

-- the first fault of the text of the module with this name, or want of memory
abbrev pub IsFaultOf : (name text : Text) → code.Refusal → Type 0
IsFaultOf name text q = MatchOption (refusal_view q) (q ≡ r.Memory) (λ w. (f : FaultKind) × (w ≡ faulty f name) × IsFirstFault text f)
