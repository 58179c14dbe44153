-- Each token opens a bracket, closes one, or leaves them.
use Rattle.std.proofs.Common.{arith, ◌≡◌, suc, zero, ◌-◌, ◌+◌}
use Rattle.rn_syntax.proofs.ProductionsRead.Compose.{upto_then, took_upto, stuck_upto, took_gives}
use Rattle.rn_syntax.proofs.ProductionsRead.Next.{inside_of}
use Rattle.rn_syntax.proofs.ProductionsRead.Skipping.{closings_start, closings_same, closing, opening, passing, refusing, is_plain}
use Rattle.rn_syntax.proofs.productions.annotations.skip_closed.Goals as goal

pub closed-init : goal.closed-init
closed-init c = record { further = omega arith; inside = c.requires; small = omega arith; so_far = closings_start _ }

pub returns-then-depth-eq0-clause-skips : goal.returns-then-depth-eq0-clause-skips
returns-then-depth-eq0-clause-skips c = λ s.
    let e : c.closed.depth ≡ zero = c.if-depth-eq0.true in
    let u = upto_then c.closed.invariant.so_far (closing c.closed.depth c.in-RightBracket.ensures.next.1) in
    took_upto (closings_same e u) (took_gives tt _)

pub closed-preserved-in-RightBracket : goal.closed-preserved-in-RightBracket
closed-preserved-in-RightBracket c =
    let e : c.closed.depth ≡ suc (c.closed.depth - 1) = omega arith in
    let u = upto_then c.closed.invariant.so_far (closing c.closed.depth c.in-RightBracket.ensures.next.1) in
    record {
      further = omega arith;
      inside = omega (arith, c.in-RightBracket.ensures.inside);
      small = omega arith;
      so_far = closings_same e u;
    }

pub closed-preserved-in-LeftBracket : goal.closed-preserved-in-LeftBracket
closed-preserved-in-LeftBracket c =
    let e : suc (suc c.closed.depth) ≡ suc (c.closed.depth + 1) = omega arith in
    let u = upto_then c.closed.invariant.so_far (opening c.closed.depth c.in-LeftBracket.ensures.next.1) in
    record {
      further = omega arith;
      inside = omega (arith, c.in-LeftBracket.ensures.inside);
      small = omega arith;
      so_far = closings_same e u;
    }

pub returns-in-LeftBrace-clause-skips : goal.returns-in-LeftBrace-clause-skips
returns-in-LeftBrace-clause-skips c = λ s. stuck_upto c.closed.invariant.so_far (refusing c.closed.depth c.next.result _ _ c.in-LeftBrace.is c.next.ensures.next)

pub closed-preserved : goal.closed-preserved
closed-preserved c =
    let d = c.in_default in
    let h = is_plain c.next.result _ _ d.not-LeftBrace d.not-RightBrace d.not-LeftParen d.not-RightParen d.not-LeftBracket d.not-RightBracket d.not-End c.next.ensures.next in
    record {
      further = omega arith;
      inside = omega (arith, inside_of c.next.result d.not-End c.closed.at _ c.next.ensures.inside);
      small = omega arith;
      so_far = upto_then c.closed.invariant.so_far (passing c.closed.depth h.plain h.here);
    }
