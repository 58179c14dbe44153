use Rattle.std.proofs.Common.{string_bytes, arith}
use Rattle.std.proofs.lemmas.List.Elements.{All-map}
use Rattle.rn_scopes.specs.FreeNames.{FileIsFree}
use Rattle.rn_scopes.specs.declared.input_files.InputFile.{InputFile}
use Rattle.rn_scopes.proofs.free_names.are_free.Goals as goal

pub returns : goal.returns
returns c = λ _. All-map (FileIsFree c.args.names.now.made_stems (string_bytes c.args.names.now.start)) (λ (g : InputFile). g.file) c.args.units.now.files.items (λ k d h. c.loop-given.invariant k d (omega (arith, h)))
