-- Those before the index are bound; the first wrong place is known, or lies in what is left.
use Rattle.std.proofs.Common.{◌≡◌, [], take, drop, map, is_some}
use Rattle.std.specs.Prelude.{if◌then◌else◌}
use Rattle.rn_syntax.specs.Places.{first, declarations_places}
use Rattle.rn_syntax.specs.View.{declaration_view}
use Rattle.rn_syntax.proofs.bindings.bind_all.Given as goal

abbrev pub invariant-declarations : goal.invariant-declarations
invariant-declarations l = record {
  bound : l.bindings.declarations.now ≡ take l.index l.declarations;
  wrong : first (declarations_places [] (map declaration_view l.declarations))
      ≡ (if is_some l.wrong then l.wrong else first (declarations_places (map declaration_view (take l.index l.declarations)) (map declaration_view (drop l.index l.declarations))));
}
