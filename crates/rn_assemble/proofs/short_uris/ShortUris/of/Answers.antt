use Rattle.std.proofs.Common.{◌≡◌, ◌+◌, ◌∷◌, [], ◌++◌, List, length, map, sym, ap, ◌∙◌, append_assoc, arith}
use Rattle.std.specs.Borrow.{Bor}
use Rattle.std.proofs.lemmas.List.{length-map, map-append}
use Rattle.rn_text.specs.Texts.{Text}
use Rattle.rn_assemble.specs.ShortTexts.{short_entry, short_list, short_text_of}
use Rattle.rn_assemble.specs.inside.Views.{texts_of}
use Rattle.rn_assemble.proofs.Renaming.ShortLists.{list_more, uris_listed}
use Rattle.rn_assemble.proofs.short_uris.ShortUris.of.Goals as goal

pub loop-uri-preserved : goal.loop-uri-preserved
loop-uri-preserved c =
    let (us, rest, texts) = c.loop-uri.invariant in
    let items = c.loop-uri.list.items in
    let next : c.loop-uri.uri-iterator ≡ c.in-Some.uri ∷ c.next.new.self = c.in-Some.ensures.steps in
    let count : length (texts_of us) ≡ length items =
    ap length (sym (uris_listed 0 (texts_of us))) ∙ length-map (short_list 0 (texts_of us)) (λ (e : Text × Text). e.1) ∙ ap length (sym texts) ∙ length-map items short_entry in
    let number : 0 + length (texts_of us) ≡ c.len-in-loop-uri.result = omega (arith, count, c.len-in-loop-uri.ensures) in (
      us ++ c.in-Some.uri ∷ [],
      append_assoc us (c.in-Some.uri ∷ []) c.next.new.self ∙ ap (λ (ks : List (Bor Text)). us ++ ks) (sym next) ∙ rest,
      ap (map short_entry) c.in_ok-push.ensures.items ∙ map-append short_entry items (c.in_ok-short.short ∷ [])
          ∙ (λ i. texts i ++ c.in_ok-short.ensures i ∷ [])
          ∙ ap (λ n. short_list 0 (texts_of us) ++ (short_text_of n c.in-Some.uri.now, c.in-Some.uri.now) ∷ []) (sym number)
          ∙ sym (list_more 0 (texts_of us) c.in-Some.uri.now)
          ∙ ap (short_list 0) (sym (map-append (λ (s : Bor Text). s.now) us (c.in-Some.uri ∷ []))),
    )
