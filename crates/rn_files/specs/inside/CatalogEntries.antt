-- What entries of catalogs are for (XML Catalogs 1.1, 6.5).
use Rattle.rn_catalog.specs.declared.catalog.EntryKind.{EntryKind}
use Rattle.rn_catalog.specs.declared.catalog.EntryKind.TheVariants.{Uri, RewriteUri, UriSuffix, DelegateUri, System, RewriteSystem, SystemSuffix, DelegateSystem, NextCatalog}
use Rattle.rn_files.specs.declared.mapping.maps.UriPart.{UriPart}
use Rattle.rn_files.specs.declared.mapping.maps.UriPart.TheVariants.{Front, Whole, End}

-- the part of a URI or a system identifier that an entry is for: all of it (6.5.4, 6.5.9), its end (6.5.6, 6.5.11) or its front (the
-- others); a further catalog is for none
abbrev pub part_of : EntryKind → UriPart
part_of Uri = Whole
part_of System = Whole
part_of UriSuffix = End
part_of SystemSuffix = End
part_of RewriteUri = Front
part_of RewriteSystem = Front
part_of DelegateUri = Front
part_of DelegateSystem = Front
part_of NextCatalog = Whole
