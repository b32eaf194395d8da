-- A run is a list of calls: what holds of every list of calls holds of it. Assumes nothing.
use Rattle.std.proofs.Common.{◌≡◌, List, [], ◌∷◌, Some, None, Option, sym, refl, ◌∙◌}
use Rattle.chunk_tables.specs.Lists.{maybe}
use Rattle.chunk_tables.specs.Model.{Name, OtherChunk, Chunk}
use Rattle.hints.specs.Hints.{hint}
use Rattle.session_rules.specs.Calls.{helper, told}
use Rattle.session_rules.specs.Helpers.{Helper, helper_of, noted, noting}
use Rattle.session_rules.specs.Rules.{Answer, given, already, agreed, declines, Told, unchanged}
use Rattle.session_rules.specs.Session.{Session}
use Rattle.deconflict_chunk_symbols.specs.Drawing.{drawing_on, draw_each, draw_calls, run, run_calls}
use Rattle.deconflict_chunk_symbols.specs.Performing.{then_on, perform_each}
use Rattle.deconflict_chunk_symbols.specs.Run.{naming_calls}
use Rattle.deconflict_chunk_symbols.proofs.Turns.{perform_append}

drawing_as_calls : (c : Chunk) (S : Session) (hs : List Helper) (os : List OtherChunk) → (draw_each c S hs os).told ≡ perform_each c S (draw_calls c S hs os)
drawing_as_calls c S hs [] = refl
drawing_as_calls c S hs (o ∷ os) = on (λ T gs. drawing_as_calls c T gs os) (helper_of hs o.number)
  where
    after : ((T : Session) (gs : List Helper) → (draw_each c T gs os).told ≡ perform_each c T (draw_calls c T gs os)) → (a : Answer) (T : Session)
        → (drawing_on (noting hs o.number (record { answer = a; after = T })) (λ U gs. draw_each c U gs os)).told
        ≡ then_on (record { answer = a; after = T }) (λ U. perform_each c U (draw_calls c T (noted hs o.number a) os))
    after others (given n p) T = others T (noted hs o.number (given n p))
    after others (already n) T = others T hs
    after others agreed T = others T hs
    after others (declines why) T = refl

    on : ((T : Session) (gs : List Helper) → (draw_each c T gs os).told ≡ perform_each c T (draw_calls c T gs os)) → (m : Option Name)
        → (drawing_on (maybe m (noting hs o.number (told c S (helper (hint o.name)))) (λ n. noting hs o.number (unchanged S (already n)))) (λ T gs. draw_each c T gs os)).told
        ≡ perform_each c S (maybe m (helper (hint o.name) ∷ draw_calls c (told c S (helper (hint o.name))).after (noted hs o.number (told c S (helper (hint o.name))).answer) os) (λ n. draw_calls c S hs os))
    on others None = after others (told c S (helper (hint o.name))).answer (told c S (helper (hint o.name))).after
    on others (Some n) = others S hs

pub run_as_calls : (c : Chunk) (S : Session) (hs : List Helper) → (run c S hs).told ≡ perform_each c S (run_calls c S hs)
run_as_calls c S hs = on (perform_each c S (naming_calls c)) ∙ sym (perform_append c S (naming_calls c) (draw_calls c (perform_each c S (naming_calls c)).after hs c.others))
  where
    on : (t : Told) → (drawing_on (record { told = t; helpers = hs }) (λ T gs. draw_each c T gs c.others)).told ≡ then_on t (λ T. perform_each c T (draw_calls c t.after hs c.others))
    on t = case t.answer t.after
      where
        case : (a : Answer) (T : Session) → (drawing_on (record { told = record { answer = a; after = T }; helpers = hs }) (λ U gs. draw_each c U gs c.others)).told
            ≡ then_on (record { answer = a; after = T }) (λ U. perform_each c U (draw_calls c T hs c.others))
        case (given n p) T = drawing_as_calls c T hs c.others
        case (already n) T = drawing_as_calls c T hs c.others
        case agreed T = drawing_as_calls c T hs c.others
        case (declines why) T = refl
