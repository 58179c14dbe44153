-- The URI that a shared one is.
use Rattle.std.specs.Prelude.{Bool, true, false}
use Rattle.std.specs.Rc.{rc_str_bytes}
use Rattle.rn_syntax.specs.Tree as t
use Rattle.rn_syntax.specs.Tree.{Uri}
use Rattle.rn_assemble.specs.declared.resolving.declared_uris.SharedUri.{SharedUri}
use Rattle.rn_assemble.specs.declared.resolving.declared_uris.SharedUri.TheVariants as u

abbrev pub shared_uri : SharedUri → Uri
shared_uri (u.Text s) = t.literal (rc_str_bytes s)
shared_uri u.Inherited = t.inherited

-- whether the URI is the inherited namespace
abbrev pub is_inherited : Uri → Bool
is_inherited (t.literal s) = false
is_inherited t.inherited = true
