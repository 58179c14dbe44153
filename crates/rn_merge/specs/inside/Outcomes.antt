-- What a fault or a refusal of one step is for the whole: for a run, for the check of a text, and for the program.
use Rattle.std.specs.Prelude.{Result, Ok, Err}
use Rattle.clap.specs.declared.error.kind.ErrorKind.{ErrorKind}
use Rattle.clap.specs.declared.error.kind.ErrorKind.TheVariants as parsing
use Rattle.rn_text.specs.declared.source.TextFault.{TextFault}
use Rattle.rn_text.specs.declared.source.TextFault.TheVariants as reading
use Rattle.rn_modset.specs.declared.faults.AddFault.{AddFault}
use Rattle.rn_modset.specs.declared.faults.AddFault.TheVariants as adding
use Rattle.rn_assemble.specs.declared.refusal.Refusal.{Refusal}
use Rattle.rn_assemble.specs.declared.refusal.Refusal.TheVariants as refusing
use Rattle.rn_merge.specs.declared.run.RunFault.{RunFault}
use Rattle.rn_merge.specs.declared.run.RunFault.TheVariants as running
use Rattle.rn_merge.specs.declared.run.Status.{Status}
use Rattle.rn_merge.specs.declared.run.Status.TheVariants.{Refused}
use Rattle.rn_merge.specs.declared.text_faults.Place.{Place}
use Rattle.rn_merge.specs.declared.text_faults.Place.TheVariants as placing
use Rattle.rn_merge.specs.declared.words.ProgramFault.{ProgramFault}
use Rattle.rn_merge.specs.declared.words.ProgramFault.TheVariants as failing

-- why a set was not joined to the union
abbrev pub join_fault : AddFault → RunFault
join_fault adding.Memory = running.Memory
join_fault _ = running.Full

-- what a run comes to whose merge is refused: want of memory is no refusal of the modules
abbrev pub refusal_outcome : Refusal → Result Status RunFault
refusal_outcome refusing.Memory = Err running.Memory
refusal_outcome q = Ok (Refused q)

-- the place of a fault of the bytes or the tokens
abbrev pub text_place : TextFault → Place
text_place (reading.Encoding at) = placing.Encoding at
text_place (reading.Lexical at) = placing.Lexical at
text_place reading.Memory = placing.Memory

-- a parse fails for memory, or the words are wrong
abbrev pub parse_fault : ErrorKind → ProgramFault
parse_fault parsing.OutOfMemory = failing.Memory
parse_fault _ = failing.Usage
