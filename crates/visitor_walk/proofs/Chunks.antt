-- A log that goes on: what visitors tell and say of it, how it moves cursors, and how many calls it has.
use Rattle.std.proofs.Common.{◌≡◌, ℕ, suc, ◌+◌, List, [], ◌∷◌, ◌++◌, Bool, true, false, length, Option, Some, None, refl, ap, ◌∙◌, map, arith}
use Rattle.std.specs.Prelude.{nat_eq, ◌&&◌, if◌then◌else◌}
use Rattle.std.specs.Option.{option_map}
use Rattle.node_rows.specs.Nodes.{Node}
use Rattle.node_rows.specs.Marks.{with_mark}
use Rattle.node_store.specs.declared.item.Edit.{Edit}
use Rattle.node_store.specs.declared.item.Item.{Item}
use Rattle.node_store.specs.declared.item.Item.TheVariants as I
use Rattle.node_store.specs.Forest.{Place}
use Rattle.node_store.specs.Edits.{apply, apply_all, moved_place, moved_all}
use Rattle.plugin_api.specs.declared.visitor.Told.{Told}
use Rattle.visitor_machine.specs.Calls.{calls_in}
use Rattle.visitor_walk.specs.Heard.{edits_ahead, told_of, said_of}
use Rattle.visitor_walk.specs.Walk.{moved_through}
use Rattle.visitor_walk.specs.Turns.{IsPlain, nodes_through}

pub edits_ahead-append : (xs ys : List Item) → edits_ahead ys ≡ 0 → edits_ahead (xs ++ ys) ≡ edits_ahead xs
edits_ahead-append [] ys e = e
edits_ahead-append (I.Edit x ∷ xs) ys e = ap suc (edits_ahead-append xs ys e)
edits_ahead-append (I.Pass ∷ xs) ys e = refl
edits_ahead-append (I.Enter n ∷ xs) ys e = refl
edits_ahead-append (I.Call p h m ∷ xs) ys e = refl
edits_ahead-append (I.Back o ∷ xs) ys e = refl
edits_ahead-append (I.Leave n ∷ xs) ys e = refl
edits_ahead-append (I.End ∷ xs) ys e = refl

told_call : (b : Bool) (t u : Told) (xs ys zs : List Told) → t ≡ u → xs ≡ ys ++ zs → (if b then t ∷ xs else xs) ≡ (if b then u ∷ ys else ys) ++ zs
told_call true t u xs ys zs e i = ap (λ x. x ∷ xs) e ∙ ap (λ l. u ∷ l) i
told_call false t u xs ys zs e i = i

on_by_one : (i j at : ℕ) (xs : List Item) (x : Item) (ys : List Item) → told_of i j (suc at + length xs) ys ≡ told_of i j (at + length (x ∷ xs)) ys
on_by_one i j at xs x ys = let e : suc at + length xs ≡ at + length (x ∷ xs) = omega arith in ap (λ k. told_of i j k ys) e

pub told-append : (i j at : ℕ) (xs ys : List Item) → edits_ahead ys ≡ 0 → told_of i j at (xs ++ ys) ≡ told_of i j at xs ++ told_of i j (at + length xs) ys
told-append i j at [] ys e = let k : at ≡ at + 0 = omega arith in ap (λ n. told_of i j n ys) k
told-append i j at (I.Call p h m ∷ xs) ys e =
    told_call (nat_eq p i && nat_eq h j) (record { moment = m; at = suc at; edits = edits_ahead (xs ++ ys) }) (record { moment = m; at = suc at; edits = edits_ahead xs }) (told_of i j (suc at) (xs ++ ys)) (told_of i j (suc at) xs) (told_of i j (at + length (I.Call p h m ∷ xs)) ys)
    (ap (λ n. record { moment = m; at = suc at; edits = n }) (edits_ahead-append xs ys e)) (told-append i j (suc at) xs ys e ∙ ap (λ l. told_of i j (suc at) xs ++ l) (on_by_one i j at xs (I.Call p h m) ys))
told-append i j at (I.Edit x ∷ xs) ys e = told-append i j (suc at) xs ys e ∙ ap (λ l. told_of i j (suc at) xs ++ l) (on_by_one i j at xs (I.Edit x) ys)
told-append i j at (I.Pass ∷ xs) ys e = told-append i j (suc at) xs ys e ∙ ap (λ l. told_of i j (suc at) xs ++ l) (on_by_one i j at xs I.Pass ys)
told-append i j at (I.Enter n ∷ xs) ys e = told-append i j (suc at) xs ys e ∙ ap (λ l. told_of i j (suc at) xs ++ l) (on_by_one i j at xs (I.Enter n) ys)
told-append i j at (I.Back o ∷ xs) ys e = told-append i j (suc at) xs ys e ∙ ap (λ l. told_of i j (suc at) xs ++ l) (on_by_one i j at xs (I.Back o) ys)
told-append i j at (I.Leave n ∷ xs) ys e = told-append i j (suc at) xs ys e ∙ ap (λ l. told_of i j (suc at) xs ++ l) (on_by_one i j at xs (I.Leave n) ys)
told-append i j at (I.End ∷ xs) ys e = told-append i j (suc at) xs ys e ∙ ap (λ l. told_of i j (suc at) xs ++ l) (on_by_one i j at xs I.End ys)

said_back : (b : Bool) (t : List ℕ) (xs ys zs : List (List ℕ)) → xs ≡ ys ++ zs → (if b then t ∷ xs else xs) ≡ (if b then t ∷ ys else ys) ++ zs
said_back true t xs ys zs e = ap (λ l. t ∷ l) e
said_back false t xs ys zs e = e

-- what follows doesn't begin with the end of a call
pub said-append : (i j : ℕ) (mine : Bool) (xs ys : List Item) → ((b : Bool) → said_of i j b ys ≡ said_of i j false ys) → said_of i j mine (xs ++ ys) ≡ said_of i j mine xs ++ said_of i j false ys
said-append i j mine [] ys e = e mine
said-append i j mine (I.Call p h m ∷ xs) ys e = said-append i j (nat_eq p i && nat_eq h j) xs ys e
said-append i j mine (I.Back (Some text) ∷ xs) ys e = said_back mine text (said_of i j mine (xs ++ ys)) (said_of i j mine xs) (said_of i j false ys) (said-append i j mine xs ys e)
said-append i j mine (I.Back None ∷ xs) ys e = said-append i j mine xs ys e
said-append i j mine (I.Edit x ∷ xs) ys e = said-append i j mine xs ys e
said-append i j mine (I.Pass ∷ xs) ys e = said-append i j mine xs ys e
said-append i j mine (I.Enter n ∷ xs) ys e = said-append i j mine xs ys e
said-append i j mine (I.Leave n ∷ xs) ys e = said-append i j mine xs ys e
said-append i j mine (I.End ∷ xs) ys e = said-append i j mine xs ys e

pub calls-append : (xs ys : List Item) → calls_in (xs ++ ys) ≡ calls_in xs + calls_in ys
calls-append [] ys = let e : calls_in ys ≡ 0 + calls_in ys = omega arith in e
calls-append (x ∷ xs) ys = let e = calls-append xs ys in omega arith

pub through-append : (ns : List Node) (xs ys : List Item) → nodes_through ns (xs ++ ys) ≡ nodes_through (nodes_through ns xs) ys
through-append ns [] ys = refl
through-append ns (I.Edit e ∷ xs) ys = through-append (apply ns e) xs ys
through-append ns (I.Enter n ∷ xs) ys = through-append (with_mark ns n false) xs ys
through-append ns (I.Pass ∷ xs) ys = through-append ns xs ys
through-append ns (I.Call p h m ∷ xs) ys = through-append ns xs ys
through-append ns (I.Back o ∷ xs) ys = through-append ns xs ys
through-append ns (I.Leave n ∷ xs) ys = through-append ns xs ys
through-append ns (I.End ∷ xs) ys = through-append ns xs ys

pub moved-append : (ns : List Node) (xs ys : List Item) (c : Option Place) → moved_through ns (xs ++ ys) c ≡ moved_through (nodes_through ns xs) ys (moved_through ns xs c)
moved-append ns [] ys c = refl
moved-append ns (I.Edit e ∷ xs) ys c = moved-append (apply ns e) xs ys (option_map (moved_place ns e) c)
moved-append ns (I.Enter n ∷ xs) ys c = moved-append (with_mark ns n false) xs ys c
moved-append ns (I.Pass ∷ xs) ys c = moved-append ns xs ys c
moved-append ns (I.Call p h m ∷ xs) ys c = moved-append ns xs ys c
moved-append ns (I.Back o ∷ xs) ys c = moved-append ns xs ys c
moved-append ns (I.Leave n ∷ xs) ys c = moved-append ns xs ys c
moved-append ns (I.End ∷ xs) ys c = moved-append ns xs ys c

-- items that are no calls
pub plain_told : (i j at : ℕ) (xs : List Item) → IsPlain xs → told_of i j at xs ≡ []
plain_told i j at [] h = refl
plain_told i j at (I.Pass ∷ xs) h = plain_told i j (suc at) xs h
plain_told i j at (I.Enter n ∷ xs) h = plain_told i j (suc at) xs h
plain_told i j at (I.Leave n ∷ xs) h = plain_told i j (suc at) xs h
plain_told i j at (I.End ∷ xs) h = plain_told i j (suc at) xs h
plain_told i j at (I.Call p n m ∷ xs) h = absurd h
plain_told i j at (I.Edit e ∷ xs) h = absurd h
plain_told i j at (I.Back o ∷ xs) h = absurd h

pub plain_said : (i j : ℕ) (b : Bool) (xs : List Item) → IsPlain xs → said_of i j b xs ≡ []
plain_said i j b [] h = refl
plain_said i j b (I.Pass ∷ xs) h = plain_said i j b xs h
plain_said i j b (I.Enter n ∷ xs) h = plain_said i j b xs h
plain_said i j b (I.Leave n ∷ xs) h = plain_said i j b xs h
plain_said i j b (I.End ∷ xs) h = plain_said i j b xs h
plain_said i j b (I.Call p n m ∷ xs) h = absurd h
plain_said i j b (I.Edit e ∷ xs) h = absurd h
plain_said i j b (I.Back o ∷ xs) h = absurd h

pub plain_ahead : (xs : List Item) → IsPlain xs → edits_ahead xs ≡ 0
plain_ahead [] h = refl
plain_ahead (I.Pass ∷ xs) h = refl
plain_ahead (I.Enter n ∷ xs) h = refl
plain_ahead (I.Leave n ∷ xs) h = refl
plain_ahead (I.End ∷ xs) h = refl
plain_ahead (I.Call p n m ∷ xs) h = absurd h
plain_ahead (I.Edit e ∷ xs) h = absurd h
plain_ahead (I.Back o ∷ xs) h = absurd h

pub plain_calls : (xs : List Item) → IsPlain xs → calls_in xs ≡ 0
plain_calls [] h = refl
plain_calls (I.Pass ∷ xs) h = let e = plain_calls xs h in omega arith
plain_calls (I.Enter n ∷ xs) h = let e = plain_calls xs h in omega arith
plain_calls (I.Leave n ∷ xs) h = let e = plain_calls xs h in omega arith
plain_calls (I.End ∷ xs) h = let e = plain_calls xs h in omega arith
plain_calls (I.Call p n m ∷ xs) h = absurd h
plain_calls (I.Edit e ∷ xs) h = absurd h
plain_calls (I.Back o ∷ xs) h = absurd h

pub plain_moved : (ns : List Node) (xs : List Item) (c : Option Place) → IsPlain xs → moved_through ns xs c ≡ c
plain_moved ns [] c h = refl
plain_moved ns (I.Pass ∷ xs) c h = plain_moved ns xs c h
plain_moved ns (I.Enter n ∷ xs) c h = plain_moved (with_mark ns n false) xs c h
plain_moved ns (I.Leave n ∷ xs) c h = plain_moved ns xs c h
plain_moved ns (I.End ∷ xs) c h = plain_moved ns xs c h
plain_moved ns (I.Call p n m ∷ xs) c h = absurd h
plain_moved ns (I.Edit e ∷ xs) c h = absurd h
plain_moved ns (I.Back o ∷ xs) c h = absurd h

-- the edits of a call, and what stands behind them
pub edits_said : (i j : ℕ) (b : Bool) (es : List Edit) (ys : List Item) → said_of i j b (map (λ e. I.Edit e) es ++ ys) ≡ said_of i j b ys
edits_said i j b [] ys = refl
edits_said i j b (e ∷ es) ys = edits_said i j b es ys

pub edits_told : (i j at : ℕ) (es : List Edit) (ys : List Item) → ((k : ℕ) → told_of i j k ys ≡ []) → told_of i j at (map (λ e. I.Edit e) es ++ ys) ≡ []
edits_told i j at [] ys h = h at
edits_told i j at (e ∷ es) ys h = edits_told i j (suc at) es ys h

pub edits_count : (es : List Edit) (ys : List Item) → edits_ahead ys ≡ 0 → edits_ahead (map (λ e. I.Edit e) es ++ ys) ≡ length es
edits_count [] ys h = h
edits_count (e ∷ es) ys h = ap suc (edits_count es ys h)

pub edits_calls : (es : List Edit) (ys : List Item) → calls_in (map (λ e. I.Edit e) es ++ ys) ≡ calls_in ys
edits_calls [] ys = refl
edits_calls (e ∷ es) ys = let i = edits_calls es ys in omega arith

pub edits_moved : (ns : List Node) (es : List Edit) (ys : List Item) (c : Option Place) → moved_through ns (map (λ e. I.Edit e) es ++ ys) c ≡ moved_through (apply_all ns es) ys (moved_all ns es c)
edits_moved ns [] ys c = refl
edits_moved ns (e ∷ es) ys c = edits_moved (apply ns e) es ys (option_map (moved_place ns e) c)

pub edits_through : (ns : List Node) (es : List Edit) (ys : List Item) → nodes_through ns (map (λ e. I.Edit e) es ++ ys) ≡ nodes_through (apply_all ns es) ys
edits_through ns [] ys = refl
edits_through ns (e ∷ es) ys = edits_through (apply ns e) es ys
