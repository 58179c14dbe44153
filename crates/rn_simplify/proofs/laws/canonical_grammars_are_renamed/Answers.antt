use Rattle.std.specs.Prelude.{Contains}
use Rattle.rn_simplify.proofs.Renaming.CanonicalGrammars.{canonical_renamed}
use Rattle.rn_simplify.proofs.Renaming.KnownUris.{known_canonical}
use Rattle.rn_simplify.proofs.laws.canonical_grammars_are_renamed.Goals as goal

pub returns : goal.returns
returns c = record {
  renamed = λ named known r G N w h. canonical_renamed named (Contains known) r G N w h;
  known = λ known G N w h. known_canonical (Contains known) G N w h;
}
