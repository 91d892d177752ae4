use Rattle.std.proofs.Common.{◌≡◌, ℕ, List, [], Some, None, Option, Bor, ap, ◌∙◌, refl, rules, tests}
use Rattle.std.specs.Prelude.{◌==◌}
use Rattle.std.specs.Option.{option_map, unwrap_or}
use Rattle.std.proofs.lemmas.Iterator.Consumers.{nth_from_yields_List}
use Rattle.std.proofs.lemmas.Iterator.Splits.{YieldsList-from_slice_split}
use Rattle.text_sheets.proofs.refused.Refused.word.Goals as goal

-- what a reference or its default points to
pointed : (o : Option (Bor (List ℕ))) (d : Bor (List ℕ)) → (unwrap_or o d).now ≡ unwrap_or (option_map (λ x. x.now) o) d.now
pointed None d = refl
pointed (Some x) d = refl

pub returns : goal.returns
returns c =
    let n = nth_from_yields_List _ _ c.saturating_sub.result c.nth.ensures.ran
    (YieldsList-from_slice_split _ (λ b. b == 10) c.args.text.now c.split.ensures.rest c.split.ensures.done c.split.ensures.closure (λ x r q k. search (rules, tests))) in
    let line : c.unwrap_or-line.result.now ≡ unwrap_or (option_map (λ x. x.now) c.nth.result) [] =
    ap (λ (x : Bor (List ℕ)). x.now) c.unwrap_or-line.ensures ∙ pointed c.nth.result _ in
    c.part_of.ensures
    ∙ rw (line, n, c.saturating_sub.ensures, c.saturating_sub-2.ensures) refl
