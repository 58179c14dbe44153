-- What is told of files.
use Rattle.std.specs.Prelude.{String}
use Rattle.std.specs.declared.alloc.Global.{Global}
use Rattle.rn_files.specs.declared.sources.SourceFile.{SourceFile}

-- the name of a file's module, the file as it is told to people, and its text
abbrev pub told_of : SourceFile → String Global × (String Global × String Global)
told_of f = (f.name, (f.shown, f.text))
