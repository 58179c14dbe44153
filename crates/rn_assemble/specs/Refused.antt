-- What a refusal of the code says: it is the first that stands.
use Rattle.std.specs.Prelude.{◌≡◌, List, MatchOption, Option, Some, None}
use Rattle.std.specs.String.{string_bytes}
use Rattle.rn_syntax.specs.declared.fault.FaultKind.TheVariants as kind
use Rattle.rn_modset.specs.Contributions.{Member}
use Rattle.rn_assemble.specs.declared.refusal.Key as code_key
use Rattle.rn_assemble.specs.declared.refusal.Key.TheVariants as k
use Rattle.rn_assemble.specs.declared.refusal.Refusal as code
use Rattle.rn_assemble.specs.declared.refusal.Refusal.TheVariants as r
use Rattle.rn_assemble.specs.Components.{Key, start_key, name_key}
use Rattle.rn_assemble.specs.Refusal.{Refusal, conflict, faulty, missing, cycle, too_many_instances, override, plain_twice, mixed_methods, no_start, undefined, recursive, name_class, IsFirst}

abbrev pub key_view : code_key.Key → Key
key_view k.Start = start_key
key_view (k.Define x) = name_key (string_bytes x)

-- the refusal as a set has it; out of memory and refusals of the printed text are no set's
abbrev pub refusal_view : code.Refusal → Option Refusal
refusal_view (r.Conflict m v) = Some (conflict (string_bytes m) v)
refusal_view (r.Encoding m) = Some (faulty kind.Encoding (string_bytes m))
refusal_view (r.Lexical m) = Some (faulty kind.Lexical (string_bytes m))
refusal_view (r.Deep m) = Some (faulty kind.Deep (string_bytes m))
refusal_view (r.Syntax m) = Some (faulty kind.Syntax (string_bytes m))
refusal_view (r.Prefix m) = Some (faulty kind.Prefix (string_bytes m))
refusal_view (r.Builtin m) = Some (faulty kind.Builtin (string_bytes m))
refusal_view (r.ContextValue m) = Some (faulty kind.ContextValue (string_bytes m))
refusal_view (r.Except m) = Some (faulty kind.Except (string_bytes m))
refusal_view (r.Missing m w) = Some (missing (string_bytes m) (string_bytes w))
refusal_view (r.Cycle m) = Some (cycle (string_bytes m))
refusal_view r.Instances = Some too_many_instances
refusal_view (r.Override m k) = Some (override (string_bytes m) (key_view k))
refusal_view (r.PlainTwice k) = Some (plain_twice (key_view k))
refusal_view (r.MixedMethods k) = Some (mixed_methods (key_view k))
refusal_view r.NoStart = Some no_start
refusal_view (r.Undefined x) = Some (undefined (string_bytes x))
refusal_view (r.Recursive x) = Some (recursive (string_bytes x))
refusal_view (r.NameClass k) = Some (name_class (key_view k))
refusal_view r.OutputTooLarge = None
refusal_view r.OutputTooDeep = None
refusal_view r.Memory = None

-- the first refusal that stands for the set, or out of memory
abbrev pub IsFirstRefusal : List Member → code.Refusal → Type 0
IsFirstRefusal s q = MatchOption (refusal_view q) (q ≡ r.Memory) (IsFirst s)
