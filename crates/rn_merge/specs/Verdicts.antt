-- What `merge` answers for a set: the verdict of the set, or out of memory.
use Rattle.std.specs.Prelude.{◌≡◌, List, MatchOption, Option, Some, Result, Ok, Err, String, string_bytes}
use Rattle.std.specs.Option.{option_map}
use Rattle.std.specs.declared.alloc.Global.{Global}
use Rattle.rn_modset.specs.Contributions.{Member}
use Rattle.rn_assemble.specs.declared.refusal.Refusal as code
use Rattle.rn_assemble.specs.declared.refusal.Refusal.TheVariants as r
use Rattle.rn_assemble.specs.Refused.{refusal_view}
use Rattle.rn_simplify.specs.Verdict.{Verdict, prints, refused, too_large, too_deep, IsVerdict}

-- the verdict that a refusal is, with all its fields; out of memory is none
abbrev pub verdict_view : code.Refusal → Option Verdict
verdict_view r.OutputTooLarge = Some too_large
verdict_view r.OutputTooDeep = Some too_deep
verdict_view q = option_map refused (refusal_view q)

-- a text, or a refusal
abbrev pub Answer : Type 0
Answer = Result (String Global) code.Refusal

-- the verdict that an answer is; out of memory is none
abbrev pub answer_view : Answer → Option Verdict
answer_view (Ok text) = Some (prints (string_bytes text))
answer_view (Err q) = verdict_view q

-- what `merge` promises: the answer is the verdict of the set, or out of memory
abbrev pub IsAnswer : List Member → Answer → Type 0
IsAnswer s (Ok text) = IsVerdict s (prints (string_bytes text))
IsAnswer s (Err q) = MatchOption (verdict_view q) (q ≡ r.Memory) (IsVerdict s)
