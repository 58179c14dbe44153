use Rattle.std.proofs.Common.{◌≡◌, ◌<◌, Option, length, sym, subst, arith}
use Rattle.rn_assemble.specs.Combine.{IsPlainTwice, IsMixed}
use Rattle.rn_assemble.specs.Components.{Key, start_key}
use Rattle.rn_assemble.specs.Least.{IsLeast, key_cmp}
use Rattle.rn_assemble.specs.declared.reading.keys.KeyId.{KeyId}
use Rattle.rn_assemble.specs.inside.Methods.{IsLeastNumber}
use Rattle.rn_assemble.specs.inside.Views.{names_of}
use Rattle.rn_assemble.proofs.KeyFaults.KeysOfPieces.{key_missing, key_there, mixed_number, plain_number}
use Rattle.rn_assemble.proofs.KeyFaults.KnownRows.{row_of}
use Rattle.rn_assemble.proofs.Referring.LeastKeys.{least_key, no_key}
use Rattle.rn_assemble.proofs.by_key.checks.check_methods.Goals as goal

pub returns-in-Some : goal.returns-in-Some
returns-in-Some c = λ modules cs o rows segments.
    let names = names_of c.args.keys.now in
    let P : Key → Type 0 = λ j. IsPlainTwice j cs in
    let least = subst (λ (m : Option KeyId). IsLeastNumber names P m) c.in-Some.is (c.in_ok-key.ensures modules names cs o rows segments) in
    let key_is = c.in_ok-key-2.ensures (omega (arith, least.0)) in
    subst (λ k. IsLeast key_cmp P k) (sym key_is) (least_key names o P (plain_number modules names c.args.segments.now cs rows.names_are segments) c.in-Some.key.0 least)

pub returns-in-Some-2 : goal.returns-in-Some-2
returns-in-Some-2 c = λ modules cs o rows segments.
    let names = names_of c.args.keys.now in
    let x = c.args.segments.now in
    let P : Key → Type 0 = λ j. IsMixed j cs in
    let none = subst (λ (m : Option KeyId). IsLeastNumber names (λ j. IsPlainTwice j cs) m) c.in_default.is (c.in_ok-key.ensures modules names cs o rows segments) in
    let least = subst (λ (m : Option KeyId). IsLeastNumber names P m) c.in-Some-2.is (c.in_ok-key-3.ensures modules names cs o rows segments) in
    let key_is = c.in_ok-key-4.ensures (omega (arith, least.0)) in (
      subst (λ k. IsLeast key_cmp P k) (sym key_is) (least_key names o P (mixed_number modules names x cs rows.names_are segments) c.in-Some-2.key.0 least),
      no_key names o (λ j. IsPlainTwice j cs) (plain_number modules names x cs rows.names_are segments) none,
    )

pub returns-then-is_empty : goal.returns-then-is_empty
returns-then-is_empty c = λ modules cs o rows segments.
    let names = names_of c.args.keys.now in
    let x = c.args.segments.now in
    let row = c.row.result.now in
    let none = subst (λ (m : Option KeyId). IsLeastNumber names (λ j. IsPlainTwice j cs) m) c.in_default.is (c.in_ok-key.ensures modules names cs o rows segments) in
    let no_mixed = subst (λ (m : Option KeyId). IsLeastNumber names (λ j. IsMixed j cs) m) c.in_default-2.is (c.in_ok-key-3.ensures modules names cs o rows segments) in
    let row_is = row_of modules names c.args.rows.now rows 0 (omega (arith, rows.size)) row c.row.ensures in
    let pieces = c.in_ok-live_pieces.ensures.pieces modules start_key cs row_is segments in
    let empty : length c.live_pieces.new.pieces.items ≡ 0 = grind (arith, c.if-is_empty.true, c.is_empty.ensures, c.live_pieces.new.pieces.ok) in (
      key_missing modules x.list.items start_key row cs c.live_pieces.new.pieces.items pieces empty,
      no_key names o (λ j. IsPlainTwice j cs) (plain_number modules names x cs rows.names_are segments) none,
      no_key names o (λ j. IsMixed j cs) (mixed_number modules names x cs rows.names_are segments) no_mixed,
    )

pub returns : goal.returns
returns c = λ modules cs o rows segments.
    let names = names_of c.args.keys.now in
    let x = c.args.segments.now in
    let row = c.row.result.now in
    let none = subst (λ (m : Option KeyId). IsLeastNumber names (λ j. IsPlainTwice j cs) m) c.in_default.is (c.in_ok-key.ensures modules names cs o rows segments) in
    let no_mixed = subst (λ (m : Option KeyId). IsLeastNumber names (λ j. IsMixed j cs) m) c.in_default-2.is (c.in_ok-key-3.ensures modules names cs o rows segments) in
    let row_is = row_of modules names c.args.rows.now rows 0 (omega (arith, rows.size)) row c.row.ensures in
    let pieces = c.in_ok-live_pieces.ensures.pieces modules start_key cs row_is segments in
    let some : 0 < length c.live_pieces.new.pieces.items = grind (arith, c.if-is_empty.false, c.is_empty.ensures, c.live_pieces.new.pieces.ok) in
    record {
      plain_once = no_key names o (λ j. IsPlainTwice j cs) (plain_number modules names x cs rows.names_are segments) none;
      one_method = no_key names o (λ j. IsMixed j cs) (mixed_number modules names x cs rows.names_are segments) no_mixed;
      start = key_there modules x.list.items start_key row cs c.live_pieces.new.pieces.items pieces some;
    }
