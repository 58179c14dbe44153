use Rattle.std.proofs.Common.{◌≡◌, ◌+◌, ◌-◌, ◌<◌, ◌≤◌, ◌++◌, ◌∷◌, [], ℕ, suc, List, length, get_or, take, drop, map, Option, Some, None, refl, sym, ap, ◌∙◌, subst, arith}
use Rattle.std.specs.Prelude.{slice_get, slice_range}
use Rattle.std.specs.Borrow.{Bor}
use Rattle.std.specs.List.{AllByRecursion}
use Rattle.std.specs.Option.{option_map_or}
use Rattle.std.specs.Rc.{rc_str_bytes}
use Rattle.std.proofs.lemmas.List.{drop_more, length-append, take_more}
use Rattle.std.proofs.lemmas.Option.{same_Some, slice_get-get_or, slice_get_past, slice_get_read}
use Rattle.std.proofs.lemmas.Slice.Zip.{AllZip-long}
use Rattle.rn_text.specs.Texts.{Text}
use Rattle.rn_assemble.specs.declared.reading.contents.Contents.{Contents}
use Rattle.rn_assemble.specs.declared.reading.contents.Include.{Include}
use Rattle.rn_assemble.specs.declared.reading.named_modules.ModuleId.{ModuleId}
use Rattle.rn_assemble.specs.declared.resolving.declared_uris.DeclaredUris.{DeclaredUris}
use Rattle.rn_assemble.specs.declared.including.segments.FollowedInclude.{FollowedInclude}
use Rattle.rn_assemble.specs.declared.including.segments.Segments.{Segments}
use Rattle.rn_assemble.specs.Components as specs
use Rattle.rn_assemble.specs.inside.Bringing.{Brings, IncludedLacks, included_in, own_components}
use Rattle.rn_assemble.specs.inside.ContentsOf.{IsContents, declarations_at, name_at, segment_begin, segment_end, written_at}
use Rattle.rn_assemble.specs.inside.ContextBindings.{BindsAs}
use Rattle.rn_assemble.specs.inside.Lacking.{LacksWithin}
use Rattle.rn_assemble.specs.inside.Segments.{IsBrought}
use Rattle.rn_assemble.specs.inside.Views.{inclusion_view, module_number}
use Rattle.rn_assemble.proofs.Expansion.BroughtSegments.{brings_include, brings_none, brings_segment, if_ok_to}
use Rattle.rn_assemble.proofs.Expansion.IncludeOrder.{Ordered}
use Rattle.rn_assemble.proofs.Expansion.LeftSegments.{has_written}
use Rattle.rn_assemble.proofs.Expansion.ModuleExpansion.{IsWithin, can_segment, end_below, going_end, going_more, going_none, is_module}
use Rattle.rn_assemble.proofs.including.segments.Segments.+bring.Goals as goal
use Rattle.rn_assemble.proofs.including.segments.Segments.+bring.Goals.{bring_included-in-Some+in_ok-bring, bring_included-in_default}

pub bring-returns-then-depth-eq0 : goal.bring-returns-then-depth-eq0
bring-returns-then-depth-eq0 t c = λ modules can l.
    let x = c.args.self.now in
    let n = name_at modules c.args.«module».0 in
    let u = rc_str_bytes c.args.inherited.now in
    subst (λ d. Brings modules x x (specs.components_within d modules n u) (specs.components_within d modules n u) (LacksWithin d modules n u)) (sym c.if-depth-eq0.true) (brings_none modules x can)

pub bring-returns-in_default : goal.bring-returns-in_default
bring-returns-in_default t c = λ modules can l.
    absurd (omega (arith, l, AllZip-long (IsContents modules) modules c.args.self.now.contents.now can.are.contents, c.in_default.ensures.lookup.3))

pub bring-includes-init : goal.bring-includes-init
bring-includes-init t c = record {
  number_is = refl;
  going = λ modules can is. going_none modules c.args.«module».0 c.in-Some.content.now is (rc_str_bytes c.of-context.result.inherited.now) (c.args.depth - 1) c.args.self.now can;
}

-- the contents of the module
got : (contents : List Contents) (m : ℕ) (content : Contents) → m < length contents → ((d : Contents) → content ≡ get_or contents m d) → slice_get contents m ≡ Some content
got contents m content l e = slice_get_read contents (length contents) m content refl l (e content)

pub bring-includes-preserved : goal.bring-includes-preserved
bring-includes-preserved t c = record {
  number_is = ap (λ n. n + 1) c.includes.invariant.number_is;
  going = λ modules can is.
      let x = c.args.self.now in
      let now = c.includes.self in
      let mid = c.add.new.self in
      let new = c.bring_included.new.self in
      let m = c.args.«module».0 in
      let u = rc_str_bytes c.of-context.result.inherited.now in
      let ds = declarations_at modules m in
      let content = c.in-Some.content.now in
      let items = content.includes.items in
      let n = c.includes.include-index in
      let none : Include = record { «module» = None; inherit = None; from = 0; to = 0 } in
      let i : Include = get_or c.deref-include-items.result.now n none in
      let value = c.deref-include-items.ensures.value in
      let below : n < length items = subst (λ (l : List Include). n < length l) value c.includes-test.true in
      let at : get_or items n none ≡ i = ap (λ (q : List Include). get_or q n none) (sym value) in
      let here : slice_get items n ≡ Some i = slice_get-get_or items n none below ∙ ap Some at in
      let step : drop n items ≡ i ∷ drop (n + 1) items = drop_more items n none below ∙ ap (λ (q : Include). q ∷ drop (n + 1) items) at in
      let taken : take (n + 1) items ≡ take n items ++ i ∷ [] = take_more items n none below ∙ ap (λ (q : Include). take n items ++ q ∷ []) at in
      let number : c.includes.number ≡ n = c.includes.invariant.number_is in
      let g = c.includes.invariant.going modules can is in
      let ordered = subst (λ (l : List Include). Ordered (length (written_at modules m)) c.includes.from (map inclusion_view l)) step g.ordered in
      let within = subst (λ (l : List Include). AllByRecursion (IsWithin modules) (map inclusion_view l)) step g.included in
      let lookup = c.in-Some.ensures.lookup.3 in
      let there : slice_get now.contents.now m ≡ Some content = ap (λ (r : Bor (List Contents)). slice_get r.now m) g.brings.contents ∙ got x.contents.now m content lookup.0 lookup.1 in
      let ends : i.from ≡ segment_end content c.includes.number = sym (ap (λ (o : Option Include). option_map_or (λ (k : Include). k.from) o content.count) (ap (slice_get items) number ∙ here)) in
      let binds : BindsAs c.of-context.result.bindings.now ds = subst (λ (r : Bor DeclaredUris). BindsAs r.now ds) (sym c.of-context.ensures.bindings) is.binds in
      let a = c.in_ok-add.ensures.added modules g.brings.can.are
      (can_segment modules m content is now _ c.includes.number c.includes.from i.from there binds (omega (arith, number, below)) (g.begins ∙ ap (segment_begin items) (sym number)) ends ordered.0 (omega (arith, ordered.1, ordered.2))) in
      let b = brings_segment modules now mid m _ c.includes.from i.from g.brings.can c.in_ok-add.ensures.contents c.in_ok-add.ensures.brought a in
      let after : slice_get mid.contents.now m ≡ Some content = ap (λ (r : Bor (List Contents)). slice_get r.now m) c.in_ok-add.ensures.contents ∙ there in
      let included = c.in_ok-bring_included.ensures modules ds b.can (record {
        within = is.within;
        declarations = refl;
        binds = binds;
        own = λ d e. subst (λ (k : Contents). slice_get k.includes.items c.includes.number ≡ Some i) (same_Some content d (sym after ∙ e)) (ap (slice_get items) number ∙ here);
        included = λ j e. within.0 j.0 (ap module_number e);
        ordered = ordered.1;
        to_within = ordered.2;
      }) in
      going_more modules m content is u (c.args.depth - 1) x now mid new n c.includes.from i g here step taken b included;
}

pub bring-returns : goal.bring-returns
bring-returns t c = λ modules can l.
    let x = c.args.self.now in
    let now = c.includes.self in
    let new = c.add-2.new.self in
    let m = c.args.«module».0 in
    let u = rc_str_bytes c.args.inherited.now in
    let v = rc_str_bytes c.of-context.result.inherited.now in
    let ds = declarations_at modules m in
    let name = name_at modules m in
    let content = c.in-Some.content.now in
    let items = content.includes.items in
    let n = c.includes.include-index in
    let lookup = c.in-Some.ensures.lookup.3 in
    let first : slice_get x.contents.now m ≡ Some content = got x.contents.now m content lookup.0 lookup.1 in
    let is = is_module modules x.contents.now m content can.can l first in
    let g = c.includes.invariant.going modules can is in
    let value = c.deref-include-items.ensures.value in
    let past : length items ≤ n = subst (λ (q : List Include). length q ≤ n) value c.includes-test.false in
    let all : n ≤ length items = subst (λ (q : List Include). n ≤ length q) value c.includes.auto.include-index-end in
    let number : c.includes.number ≡ n = c.includes.invariant.number_is in
    let there : slice_get now.contents.now m ≡ Some content = ap (λ (r : Bor (List Contents)). slice_get r.now m) g.brings.contents ∙ first in
    let none : slice_get items c.includes.number ≡ None = slice_get_past items c.includes.number (omega (arith, number, past)) in
    let ends : content.count ≡ segment_end content c.includes.number = sym (ap (λ (o : Option Include). option_map_or (λ (k : Include). k.from) o content.count) none) in
    let below = end_below (length (written_at modules m)) c.includes.from (map inclusion_view (drop n items)) g.ordered in
    let depth : suc (c.args.depth - 1) ≡ c.args.depth = omega (arith, c.if-depth-eq0.false) in
    let binds : BindsAs c.of-context.result.bindings.now ds = subst (λ (r : Bor DeclaredUris). BindsAs r.now ds) (sym c.of-context.ensures.bindings) is.binds in
    if_ok_to c.add-2.result
    (λ a. subst (λ d. Brings modules x new (specs.components_within d modules name u) (specs.components_within d modules name u) (LacksWithin d modules name u)) depth
    (going_end modules m content is v (c.args.depth - 1) x now new n c.includes.from u (c.of-context.ensures.alike ds is.binds) g past (brings_segment modules now new m _ c.includes.from content.count g.brings.can c.add-2.ensures.contents c.add-2.ensures.brought a)))
    (c.add-2.ensures.added modules g.brings.can.are
    (can_segment modules m content is now _ c.includes.number c.includes.from content.count there binds (omega (arith, number, all)) (g.begins ∙ ap (segment_begin items) (sym number)) ends (omega (arith, below, is.count)) (omega (arith, is.count))))

pub bring_included-returns : goal.bring_included-returns
bring_included-returns t c = λ modules ds can i.
    let x = c.args.self.now in
    let y = c.match-include.self in
    let m = c.args.«module».0 in
    let include = c.args.include.now in
    let j = inclusion_view include in
    let u = rc_str_bytes c.args.context.inherited.now in
    let v = specs.handed_on u ds j.inherit in
    let depth = c.args.depth in
    let included : Brings modules x y (included_in depth modules (module_number include.«module») v) (included_in depth modules (module_number include.«module») v) (IncludedLacks depth modules (module_number include.«module») v) = elim c.match-include.branch [
      | bring_included-in-Some+in_ok-bring w ↦
          subst (λ (s : Segments). Brings modules x s (included_in depth modules (module_number include.«module») v) (included_in depth modules (module_number include.«module») v) (IncludedLacks depth modules (module_number include.«module») v)) (sym w.self-is)
          (subst (λ (o : Option ModuleId). Brings modules x w.bring.new.self (included_in depth modules (module_number o) v) (included_in depth modules (module_number o) v) (IncludedLacks depth modules (module_number o) v)) (sym w.in-Some.is)
          (subst (λ (z : Text). Brings modules x w.bring.new.self (specs.components_within depth modules (name_at modules w.in-Some.included.0) z) (specs.components_within depth modules (name_at modules w.in-Some.included.0) z) (LacksWithin depth modules (name_at modules w.in-Some.included.0) z))
          (w.handed_on-inherited.ensures ds i.binds) (w.in_ok-bring.ensures modules can (i.included w.in-Some.included w.in-Some.is))))
      | bring_included-in_default w ↦
          subst (λ (s : Segments). Brings modules x s (included_in depth modules (module_number include.«module») v) (included_in depth modules (module_number include.«module») v) (IncludedLacks depth modules (module_number include.«module») v)) (sym w.self-is)
          (subst (λ (o : Option ModuleId). Brings modules x x (included_in depth modules (module_number o) v) (included_in depth modules (module_number o) v) (IncludedLacks depth modules (module_number o) v)) (sym w.in_default.is) (brings_none modules x can))
    ] in
    let b : FollowedInclude = record { «module» = c.args.«module»; number = c.args.number; own_from = include.from; own_to = include.to; from = c.len-from.result; to = c.len.result } in
    let begins : c.len-from.result ≡ length x.list.items = omega (arith, c.len-from.ensures) in
    let ends : c.len.result ≡ length y.list.items = omega (arith, c.len.ensures) in
    let size : length y.list.items ≡ length x.list.items + length included.segments = ap length included.list_is ∙ length-append x.list.items included.segments in
    let is : IsBrought modules y.contents.now y.list.items b = record {
      module_within = i.within;
      own_ordered = i.ordered;
      own = λ d e. (include, i.own d (ap (λ (r : Bor (List Contents)). slice_get r.now m) (sym included.contents) ∙ e), refl, refl);
      own_within = i.to_within;
      ordered = omega (arith, begins, ends, size);
      within = omega (arith, ends);
    } in
    brings_include modules x y c.push.new.self (included_in depth modules (module_number include.«module») v) (own_components modules m u ds j) (IncludedLacks depth modules (module_number include.«module») v) included b c.in_ok-push.ensures.items is begins ends
    (λ k. has_written u ds k (slice_range (written_at modules m) include.from include.to))
