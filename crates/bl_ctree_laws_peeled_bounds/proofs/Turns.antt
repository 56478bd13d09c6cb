-- The heads that may fall away in a block with first turns unrolled: a list, with the loops of the blocks in the bargain.
use Rattle.std.proofs.Common.{◌≡◌, ℕ, ◌+◌, ◌≤◌, false, List, [], ◌∷◌, ◌++◌, length, inl, inr, refl, ◌∙◌, arith}
use Rattle.std.specs.Prelude.{⊤}
use Rattle.std.proofs.lemmas.List.{length-append}
use Rattle.bl_graph_nodes.specs.Nodes.{Node, entry}
use Rattle.bl_graph_nodes.specs.Plain.{Block, Bodies, Plain, Act, Again, Await, Body as BodyOf, Cobegin, Done, If, Last, Repeat, Run as RunOf, Then, Until}
use Rattle.bl_graph_nodes.specs.Plain.{When, While, is_empty}
use Rattle.bl_ctree_laws.specs.Steps.{turn}
use Rattle.bl_ctree_laws.specs.Trees.{before}
use Rattle.bl_ctree_laws_peeled.proofs.Heads.{HasTurn}
use Rattle.bl_ctree_laws_peeled.specs.Unrolls.{PlainUnrolls, EachUnrolls, Unrolls, acts_alike, again_if, agains_alike, awaits_alike, cobegins_alike}
use Rattle.bl_ctree_laws_peeled.specs.Unrolls.{first_alike, first_repeat, first_until, ifs_alike, no_body, no_more, one_body, repeats_alike, runs_alike}
use Rattle.bl_ctree_laws_peeled.specs.Unrolls.{untils_alike, whens_alike, while_if, whiles_alike}
use Rattle.bl_tree.proofs.FirstLemmas.{In}
use Rattle.bl_ctree_laws_confluence.proofs.OnApart.Members.{in_left, in_right}

-- a loop whose head may fall away where the node begins what stands in its place
pub record LoopAt : Type 0 where
  pub node : Node
  pub loop : Plain

abbrev loop_at : Node → Plain → LoopAt
loop_at n s = record { node = n; loop = s }

-- the loop is one of the list, and something stands in its turn
pub record MayFall (all : List LoopAt) (n : Node) (s : Plain) : Type 0 where
  pub among : In (record { node = n; loop = s }) all
  pub turns : HasTurn s

-- ---- loops with something in their turns

abbrev mutual
  -- something stands in the turn of each loop that begins with a head
  pub Turning : Plain → Type 0
  Turning (Act l s) = ⊤
  Turning (Await l at e) = ⊤
  Turning (RunOf l at target a inputs outputs) = ⊤
  Turning (If l at e body other) = TurningIn body × TurningIn other
  Turning (Cobegin l at bodies) = TurningEach bodies
  Turning (When l at guard e body) = TurningIn body
  Turning (Repeat l at body) = (is_empty body ≡ false) × TurningIn body
  Turning (Until l at body e) = (is_empty body ≡ false) × TurningIn body
  Turning (While l at e body) = TurningIn body
  Turning (Again l at body e) = (is_empty body ≡ false) × TurningIn body

  pub TurningIn : Block → Type 0
  TurningIn Done = ⊤
  TurningIn (Then s rest) = Turning s × TurningIn rest

  pub TurningEach : Bodies → Type 0
  TurningEach Last = ⊤
  TurningEach (BodyOf weak body rest) = TurningIn body × TurningEach rest

pub full_before : (body after : Block) → TurningIn body → TurningIn after → TurningIn (before body after)
full_before Done after one other = other
full_before (Then s body) after one other = (one.0, full_before body after one.1 other)

pub full_first : (body after : Block) → TurningIn (before body after) → TurningIn body
full_first Done after full = tt
full_first (Then s body) after full = (full.0, full_first body after full.1)

pub full_second : (body after : Block) → TurningIn (before body after) → TurningIn after
full_second Done after full = full
full_second (Then s body) after full = full_second body after full.1

-- ---- the loops of the first block are full where those of the second are

same_empty : {H : Node → Plain → Type 0} {body body' : Block} → Unrolls H body body' → is_empty body ≡ is_empty body'
same_empty no_more = refl
same_empty (first_alike alike rest) = refl
same_empty (first_repeat falls turned) = refl
same_empty (first_until falls turned) = refl

mutual
  pub full_back : {H : Node → Plain → Type 0} {body body' : Block} → Unrolls H body body' → TurningIn body' → TurningIn body
  full_back no_more full = tt
  full_back (first_alike alike rest) full = (alike_back alike full.0, full_back rest full.1)
  full_back (first_repeat {l} {at} {body} {rest} falls turned) full =
      let all = full_back turned full in
      let loop = full_second body (Then (Repeat l at body) Done) (full_first (turn body (Repeat l at body)) rest all) in
      (loop.0, full_second (turn body (Repeat l at body)) rest all)
  full_back (first_until {l} {at} {body} {e} {rest} falls turned) full =
      let all = full_back turned full in
      let loop = full_second body (Then (Again l at body e) Done) (full_first (turn body (Again l at body e)) rest all) in
      (loop.0, full_second (turn body (Again l at body e)) rest all)

  alike_back : {H : Node → Plain → Type 0} {s t : Plain} → PlainUnrolls H s t → Turning t → Turning s
  alike_back acts_alike full = tt
  alike_back awaits_alike full = tt
  alike_back runs_alike full = tt
  alike_back (ifs_alike body other) full = (full_back body full.0, full_back other full.1)
  alike_back (cobegins_alike bodies) full = each_back bodies full
  alike_back (whens_alike body) full = full_back body full
  alike_back (repeats_alike body) full = (same_empty body ∙ full.0, full_back body full.1)
  alike_back (untils_alike body) full = (same_empty body ∙ full.0, full_back body full.1)
  alike_back (whiles_alike body) full = full_back body full
  alike_back (agains_alike body) full = (same_empty body ∙ full.0, full_back body full.1)
  alike_back (while_if {l = l} {at = at} {e = e} {body = body} inner) full = full_first body (Then (While l at e body) Done) (full_back inner full.0)
  alike_back (again_if inner) full = (full_back inner full.1).0

  each_back : {H : Node → Plain → Type 0} {bodies bodies' : Bodies} → EachUnrolls H bodies bodies' → TurningEach bodies' → TurningEach bodies
  each_back no_body full = tt
  each_back (one_body body rest) full = (full_back body full.0, each_back rest full.1)

-- ---- the heads that fall away

abbrev mutual
  pub falling_in : {H : Node → Plain → Type 0} {body body' : Block} → Unrolls H body body' → List LoopAt
  falling_in no_more = []
  falling_in (first_alike alike rest) = falling_of alike ++ falling_in rest
  falling_in (first_repeat {l} {at} {body} {t = t} falls turned) = loop_at (entry t) (Repeat l at body) ∷ falling_in turned
  falling_in (first_until {l} {at} {body} {e} {t = t} falls turned) = loop_at (entry t) (Until l at body e) ∷ falling_in turned

  pub falling_of : {H : Node → Plain → Type 0} {s t : Plain} → PlainUnrolls H s t → List LoopAt
  falling_of acts_alike = []
  falling_of awaits_alike = []
  falling_of runs_alike = []
  falling_of (ifs_alike body other) = falling_in body ++ falling_in other
  falling_of (cobegins_alike bodies) = falling_each bodies
  falling_of (whens_alike body) = falling_in body
  falling_of (repeats_alike body) = falling_in body
  falling_of (untils_alike body) = falling_in body
  falling_of (whiles_alike body) = falling_in body
  falling_of (agains_alike body) = falling_in body
  falling_of (while_if body) = falling_in body
  falling_of (again_if other) = falling_in other

  pub falling_each : {H : Node → Plain → Type 0} {bodies bodies' : Bodies} → EachUnrolls H bodies bodies' → List LoopAt
  falling_each no_body = []
  falling_each (one_body body rest) = falling_in body ++ falling_each rest

-- the same, where only listed heads may fall away
abbrev Within : List LoopAt → List LoopAt → Type 0
Within some all = (x : LoopAt) → In x some → In x all

within_left : (xs ys all : List LoopAt) → Within (xs ++ ys) all → Within xs all
within_left xs ys all within x at = within x (in_left x xs ys at)

within_right : (xs ys all : List LoopAt) → Within (xs ++ ys) all → Within ys all
within_right xs ys all within x at = within x (in_right x xs ys at)

module _ {H : Node → Plain → Type 0} (all : List LoopAt) where
  mutual
    pub listed_in : {body body' : Block} (unrolls : Unrolls H body body') → TurningIn body → Within (falling_in unrolls) all → Unrolls (MayFall all) body body'
    listed_in no_more full within = no_more
    listed_in (first_alike alike rest) full within =
        first_alike (listed_of alike full.0 (within_left (falling_of alike) (falling_in rest) all within))
        (listed_in rest full.1 (within_right (falling_of alike) (falling_in rest) all within))
    listed_in (first_repeat {l} {at} {body} {rest} {t} falls turned) full within =
        first_repeat (record { among = within (loop_at (entry t) (Repeat l at body)) (inl refl); turns = full.0.0 })
        (listed_in turned
        (full_before (turn body (Repeat l at body)) rest (full_before body (Then (Repeat l at body) Done) full.0.1 (full.0, tt)) full.1)
        (λ x at. within x (inr at)))
    listed_in (first_until {l} {at} {body} {e} {rest} {t} falls turned) full within =
        first_until (record { among = within (loop_at (entry t) (Until l at body e)) (inl refl); turns = full.0.0 })
        (listed_in turned
        (full_before (turn body (Again l at body e)) rest (full_before body (Then (Again l at body e) Done) full.0.1 (full.0, tt)) full.1)
        (λ x at. within x (inr at)))

    listed_of : {s t : Plain} (unrolls : PlainUnrolls H s t) → Turning s → Within (falling_of unrolls) all → PlainUnrolls (MayFall all) s t
    listed_of acts_alike full within = acts_alike
    listed_of awaits_alike full within = awaits_alike
    listed_of runs_alike full within = runs_alike
    listed_of (ifs_alike body other) full within =
        ifs_alike (listed_in body full.0 (within_left (falling_in body) (falling_in other) all within))
        (listed_in other full.1 (within_right (falling_in body) (falling_in other) all within))
    listed_of (cobegins_alike bodies) full within = cobegins_alike (listed_each bodies full within)
    listed_of (whens_alike body) full within = whens_alike (listed_in body full within)
    listed_of (repeats_alike body) full within = repeats_alike (listed_in body full.1 within)
    listed_of (untils_alike body) full within = untils_alike (listed_in body full.1 within)
    listed_of (whiles_alike body) full within = whiles_alike (listed_in body full within)
    listed_of (agains_alike body) full within = agains_alike (listed_in body full.1 within)
    listed_of (while_if {l = l} {at = at} {e = e} {body = body} inner) full within =
        while_if (listed_in inner (full_before body (Then (While l at e body) Done) full (full, tt)) within)
    listed_of (again_if inner) full within = again_if (listed_in inner (full, tt) within)

    listed_each : {bodies bodies' : Bodies} (unrolls : EachUnrolls H bodies bodies') → TurningEach bodies → Within (falling_each unrolls) all →
        EachUnrolls (MayFall all) bodies bodies'
    listed_each no_body full within = no_body
    listed_each (one_body body rest) full within =
        one_body (listed_in body full.0 (within_left (falling_in body) (falling_each rest) all within))
        (listed_each rest full.1 (within_right (falling_in body) (falling_each rest) all within))

-- ---- their number

abbrev mutual
  -- how many statements a statement has, itself too
  pub plain_size : Plain → ℕ
  plain_size (Act l s) = 1
  plain_size (Await l at e) = 1
  plain_size (RunOf l at target a inputs outputs) = 1
  plain_size (If l at e body other) = 1 + (plain_size_in body + plain_size_in other)
  plain_size (Cobegin l at bodies) = 1 + plain_size_each bodies
  plain_size (When l at guard e body) = 1 + plain_size_in body
  plain_size (Repeat l at body) = 1 + plain_size_in body
  plain_size (Until l at body e) = 1 + plain_size_in body
  plain_size (While l at e body) = 1 + plain_size_in body
  plain_size (Again l at body e) = 1 + plain_size_in body

  pub plain_size_in : Block → ℕ
  plain_size_in Done = 0
  plain_size_in (Then s rest) = plain_size s + plain_size_in rest

  pub plain_size_each : Bodies → ℕ
  plain_size_each Last = 0
  plain_size_each (BodyOf weak body rest) = plain_size_in body + plain_size_each rest

pub size_before : (body after : Block) → plain_size_in (before body after) ≡ plain_size_in body + plain_size_in after
size_before Done after = omega arith
size_before (Then s rest) after = let more = size_before rest after in omega arith

size_some : (s : Plain) → 1 ≤ plain_size s
size_some (Act l s) = omega arith
size_some (Await l at e) = omega arith
size_some (RunOf l at target a inputs outputs) = omega arith
size_some (If l at e body other) = omega arith
size_some (Cobegin l at bodies) = omega arith
size_some (When l at guard e body) = omega arith
size_some (Repeat l at body) = omega arith
size_some (Until l at body e) = omega arith
size_some (While l at e body) = omega arith
size_some (Again l at body e) = omega arith

size_full : (body : Block) → is_empty body ≡ false → 1 ≤ plain_size_in body
size_full Done full = absurd cc
size_full (Then s rest) full = let some = size_some s in omega arith

mutual
  -- each head that falls away leaves one more statement
  pub few_in : {H : Node → Plain → Type 0} {body body' : Block} (unrolls : Unrolls H body body') → TurningIn body →
      length (falling_in unrolls) + plain_size_in body ≤ plain_size_in body'
  few_in no_more full = omega arith
  few_in (first_alike alike rest) full =
      let one = few_of alike full.0 in
      let more = few_in rest full.1 in
      let both = length-append (falling_of alike) (falling_in rest) in
      omega arith
  few_in (first_repeat {l} {at} {body} {rest} falls turned) full =
      let all = full_before (turn body (Repeat l at body)) rest (full_before body (Then (Repeat l at body) Done) full.0.1 (full.0, tt)) full.1 in
      let more = few_in turned all in
      let one = size_before (turn body (Repeat l at body)) rest in
      let two = size_before body (Then (Repeat l at body) Done) in
      let some = size_full body full.0.0 in
      omega arith
  few_in (first_until {l} {at} {body} {e} {rest} falls turned) full =
      let all = full_before (turn body (Again l at body e)) rest (full_before body (Then (Again l at body e) Done) full.0.1 (full.0, tt)) full.1 in
      let more = few_in turned all in
      let one = size_before (turn body (Again l at body e)) rest in
      let two = size_before body (Then (Again l at body e) Done) in
      let some = size_full body full.0.0 in
      omega arith

  few_of : {H : Node → Plain → Type 0} {s t : Plain} (unrolls : PlainUnrolls H s t) → Turning s → length (falling_of unrolls) + plain_size s ≤ plain_size t
  few_of acts_alike full = omega arith
  few_of awaits_alike full = omega arith
  few_of runs_alike full = omega arith
  few_of (ifs_alike body other) full =
      let one = few_in body full.0 in
      let more = few_in other full.1 in
      let both = length-append (falling_in body) (falling_in other) in
      omega arith
  few_of (cobegins_alike bodies) full = let one = few_each bodies full in omega arith
  few_of (whens_alike body) full = let one = few_in body full in omega arith
  few_of (repeats_alike body) full = let one = few_in body full.1 in omega arith
  few_of (untils_alike body) full = let one = few_in body full.1 in omega arith
  few_of (whiles_alike body) full = let one = few_in body full in omega arith
  few_of (agains_alike body) full = let one = few_in body full.1 in omega arith
  few_of (while_if {l = l} {at = at} {e = e} {body = body} inner) full =
      let one = few_in inner (full_before body (Then (While l at e body) Done) full (full, tt)) in
      let two = size_before body (Then (While l at e body) Done) in
      omega arith
  few_of (again_if inner) full = let one = few_in inner (full, tt) in omega arith

  few_each : {H : Node → Plain → Type 0} {bodies bodies' : Bodies} (unrolls : EachUnrolls H bodies bodies') → TurningEach bodies →
      length (falling_each unrolls) + plain_size_each bodies ≤ plain_size_each bodies'
  few_each no_body full = omega arith
  few_each (one_body body rest) full =
      let one = few_in body full.0 in
      let more = few_each rest full.1 in
      let both = length-append (falling_in body) (falling_each rest) in
      omega arith
