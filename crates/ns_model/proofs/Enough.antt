-- The fuel of a whole run is enough.
use Rattle.std.proofs.Common.{◌≡◌, ℕ, suc, ◌+◌, ◌-◌, ◌<◌, List, [], ◌∷◌, ◌++◌, refl, sym, ap, ◌∙◌, arith, Option, Some, None}
use Rattle.std.specs.Prelude.{pos, Bool, true, false, ◌&&◌, map, nat_le, cond}
use Rattle.ns_base.specs.declared.limits.Limits.{Limits}
use Rattle.ns_base.specs.declared.place.Place.{Place as SourcePlace}
use Rattle.ns_base.specs.declared.selector.Sel.{Sel}
use Rattle.ns_code.specs.declared.program.CodeProgram.{CodeProgram}
use Rattle.ns_code.specs.declared.class.ClassCode.{ClassCode}
use Rattle.ns_code.specs.declared.own.Own.{Own}
use Rattle.ns_code.specs.declared.own.Own.TheVariants.{PackageUsing, MainArgs}
use Rattle.ns_world.specs.declared.value.Value.{Value}
use Rattle.ns_world.specs.declared.value.Value.TheVariants.{Nil, Ref}
use Rattle.ns_world.specs.declared.cell.FacetKind.{FacetKind}
use Rattle.ns_world.specs.declared.cell.FacetKind.TheVariants as facet
use Rattle.ns_world.specs.declared.ending.LimitKind.TheVariants.{Cells}
use Rattle.ns_world.specs.Cell.{Cell, TextCell, cell_size}
use Rattle.ns_world.specs.Heap.{Heap, heap_size, has_superclass, is_ordered}
use Rattle.ns_world.specs.World.{World, made}
use Rattle.ns_facets.specs.declared.row.Grants.{Grants}
use Rattle.ns_world.specs.declared.kernel_parts.KMethod.{KMethod}
use Rattle.ns_kcode.specs.Rows.{beginning}
use Rattle.ns_moves.specs.declared.site.Site.{Site}
use Rattle.ns_moves.specs.Control.{Progress, in_world, After, Gives, Halts}
use Rattle.ns_moves.specs.Blocks.{method_next, turns_of}
use Rattle.ns_moves.specs.Sends.{sent_plain, own_sel}
use Rattle.ns_moves.specs.Start.{facet_if, facets_of, top_if, tops_of, standing_cells, start_cells, nothing_done}
use Rattle.ns_moves.specs.Start.{all_made, start_made, manifest, platform, first_class}
use Rattle.ns_moves.specs.laws.Onward.{charged_all}
use Rattle.ns_resolved.specs.Program.{Meant}
use Rattle.ns_model.specs.Outcome.{Completion, Yields, Returns, Ends, Spent}
use Rattle.ns_model.specs.Run.{run, fuel_of}
use Rattle.ns_model.specs.Whole.{opening_place, opening, opened}
use Rattle.ns_model.specs.Laws.{IsEnough, Ready, EndsByItself, method_begins}
use Rattle.ns_model.proofs.Fuel.{IsOrdered, Fine, fine_bind, moves_on, gone_fine, run_fine}
use Rattle.ns_model.proofs.Facts.{facts}

-- ---- the opening sends

enough_of : {A : Type 0} (old : Progress) (o : Completion A) → Fine old o → IsEnough o
enough_of old (Yields v ls p) f = tt
enough_of old (Returns h v p) f = tt
enough_of old (Ends e p) f = tt
enough_of old Spent f = f

plain_fine : (meant : Meant) (code : CodeProgram) (fuel : ℕ) (receiver : Value) (sel : Sel) (values : List Value) (place : Option SourcePlace) (p : Progress)
    (live : List ℕ)
    → Ready fuel p → Fine p (run meant code fuel (sent_plain code receiver sel values place p) live)
plain_fine meant code fuel receiver sel values place p live r =
    let moves = (facts code).plain receiver sel values place p in
    let c = sent_plain code receiver sel values place p in
    moves_on p c (run meant code fuel c live) moves (run_fine meant code (facts code) fuel c live p moves r)

pub plain_enough : (meant : Meant) (code : CodeProgram) (fuel : ℕ) (receiver : Value) (sel : Sel) (values : List Value) (place : Option SourcePlace)
    (p : Progress) (live : List ℕ)
    → Ready fuel p → IsEnough (run meant code fuel (sent_plain code receiver sel values place p) live)
plain_enough meant code fuel receiver sel values place p live r =
    enough_of p _ (plain_fine meant code fuel receiver sel values place p live r)

ready_to_open : (p : Progress) → IsOrdered p → Ready (fuel_of p) p
ready_to_open p o = record { above = above p.world.limits.steps p.world.steps; ordered = o }
  where
    above : (limit steps : ℕ) → limit < suc (limit - steps) + steps
    above limit steps = omega arith

opening_fine : (meant : Meant) (code : CodeProgram) (receiver : Value) (own : Own) (values : List Value) (p : Progress) → IsOrdered p
    → Fine p (opening meant code receiver own values p)
opening_fine meant code receiver own values p o =
    plain_fine meant code (fuel_of p) receiver (own_sel code own) values (opening_place meant) p [] (ready_to_open p o)

opened_enough : (meant : Meant) (code : CodeProgram) (array : Value) (p : Progress) → IsOrdered p → IsEnough (opened meant code array p)
opened_enough meant code array p o =
    enough_of p (opened meant code array p)
    (fine_bind p (opening meant code (first_class p.world.cells) PackageUsing (manifest ∷ []) p) _
    (opening_fine meant code (first_class p.world.cells) PackageUsing (manifest ∷ []) p o)
    (λ v ls q l. opening_fine meant code v MainArgs (platform ∷ array ∷ []) q (l.ordered o)))

-- a method of the kernel that begins
pub method_enough : (meant : Meant) (code : CodeProgram) (fuel : ℕ) (named : KMethod) (receiver first second : Value) (site : Site) (live : List ℕ)
    (p : Progress) → Ready fuel p → IsEnough (run meant code (suc fuel) (method_begins named receiver first second site p) live)
method_enough meant code fuel named receiver first second site live p r =
    let state = beginning receiver first second (pos (turns_of p.world.cells named receiver)) in
    enough_of p _
    (gone_fine meant code (facts code) fuel (run_fine meant code (facts code) fuel) named site (method_next named state site p) live p
    ((facts code).next named state site p) r)

-- ---- the start

-- each class of these has its superclass before it, whatever is there
abbrev AreFree : List Cell → Type 0
AreFree [] = Unit {0}
AreFree (cell ∷ cells) = ((heap : Heap) → has_superclass heap cell ≡ true) × AreFree cells

both_free : (some others : List Cell) → AreFree some → AreFree others → AreFree (some ++ others)
both_free [] others f g = g
both_free (cell ∷ some) others f g = (f.0, both_free some others f.1 g)

facet_free : (granted : Bool) (kind : FacetKind) → AreFree (facet_if granted kind)
facet_free true kind = ((λ heap. refl), tt)
facet_free false kind = tt

top_free : (outer : Option ℕ) (decl : ℕ) → AreFree (top_if outer decl)
top_free None decl = ((λ heap. refl), tt)
top_free (Some outer) decl = tt

tops_free : (decl : ℕ) (classes : List ClassCode) → AreFree (tops_of decl classes)
tops_free decl [] = tt
tops_free decl (class ∷ classes) =
    both_free (top_if class.outer decl) (tops_of (decl + 1) classes) (top_free class.outer decl) (tops_free (decl + 1) classes)

texts_free : (texts : List (List ℕ)) → AreFree (map TextCell texts)
texts_free [] = tt
texts_free (text ∷ texts) = ((λ heap. refl), texts_free texts)

facets_free : (grants : Grants) → AreFree (facets_of grants)
facets_free grants = (
  λ heap. refl,
  (
    λ heap. refl,
    both_free (facet_if grants.console facet.Console) _ (facet_free grants.console facet.Console)
        (both_free (facet_if grants.mirrors facet.Mirrors) _ (facet_free grants.mirrors facet.Mirrors)
        (both_free (facet_if grants.kernel facet.Kernel) _ (facet_free grants.kernel facet.Kernel) (facet_free grants.board facet.Board))),
  ),
)

start_free : (code : CodeProgram) (grants : Grants) (arguments : List (List ℕ)) → AreFree (start_cells code grants arguments)
start_free code grants arguments =
    both_free (standing_cells code grants) _ (both_free (facets_of grants) (tops_of 0 code.classes) (facets_free grants) (tops_free 0 code.classes))
    (both_free (map TextCell arguments) _ (texts_free arguments) ((λ heap. refl), tt))

-- what is made of such cells is ordered
abbrev OrderedAfter : After → Type 0
OrderedAfter (Gives value p) = IsOrdered p
OrderedAfter (Halts ending p) = Unit {0}

made_ordered : (world after : World) (cell : Cell) → has_superclass world.cells cell ≡ true → is_ordered world.cells ≡ true →
    made world cell ≡ Some after
    → is_ordered after.cells ≡ true
made_ordered world after cell under o e = tested (nat_le (heap_size world.cells + cell_size cell) world.limits.cells) e
  where
    tested : (b : Bool) → cond b (Some (record world { cells = cell ∷ world.cells })) None ≡ Some after → is_ordered after.cells ≡ true
    tested true e =
        let is : record world { cells = cell ∷ world.cells } ≡ after = cc in
        ap (λ (w : World). is_ordered w.cells) (sym is) ∙ (ap (λ b. b && is_ordered world.cells) under ∙ o)
    tested false e = absurd (cc)

all_ordered : (cells : List Cell) (last : Value) (p : Progress) → AreFree cells → IsOrdered p → OrderedAfter (all_made cells last p)
all_ordered [] last p f o = o
all_ordered (cell ∷ cells) last p f o =
    charged_all OrderedAfter Halts Cells (made p.world cell) p (all_made cells (Ref (heap_size p.world.cells))) tt
    (λ world e. all_ordered cells (Ref (heap_size p.world.cells)) (in_world p world) f.1 (made_ordered p.world world cell (f.0 p.world.cells) o e))

ends : (meant : Meant) (code : CodeProgram) (after : After) → OrderedAfter after → EndsByItself meant code after
ends meant code (Gives array p) o = opened_enough meant code array p o
ends meant code (Halts ending p) o = tt

-- a run ends by itself
pub run_ends : (meant : Meant) (code : CodeProgram) (grants : Grants) (arguments : List (List ℕ)) (limits : Limits)
    → EndsByItself meant code (start_made code grants arguments limits)
run_ends meant code grants arguments limits =
    ends meant code _ (all_ordered (start_cells code grants arguments) Nil (nothing_done limits) (start_free code grants arguments) refl)
