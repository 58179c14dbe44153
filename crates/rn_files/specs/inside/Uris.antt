-- The parts of a URI as the code has them.
use Rattle.std.specs.Option.{option_copied}
use Rattle.rn_files.specs.Uris.{UriParts}
use Rattle.rn_files.specs.declared.references.uris.SplitUri.{SplitUri}

-- the parts of a URI that the code has cut
abbrev pub parts_view : SplitUri → UriParts
parts_view p = record { scheme = option_copied p.scheme; authority = option_copied p.authority; path = p.path.now }
