-- The places of a machine that is made.
use Rattle.std.proofs.Common.{◌≡◌, ℕ, ◌+◌, ◌≤◌, List, ◌++◌, length, replicate, subst, sym, arith}
use Rattle.std.proofs.lemmas.List.{length-append, length-replicate}
use Rattle.ns_base.specs.declared.place.Place.{Place as SourcePlace}
use Rattle.ns_code.specs.declared.program.CodeProgram.{CodeProgram}
use Rattle.ns_machine_plan.specs.Steps.{places_of, no_place}
use Rattle.ns_machine.specs.Places.{HasPlaces, spare_place}

-- those of the code with as many behind them as there may be frames, and one more
pub placed : (code : CodeProgram) (depth count : ℕ) (all : List SourcePlace) → count ≡ length (places_of code) →
    count + (depth + 1) ≤ no_place → all ≡ places_of code ++ replicate (depth + 1) spare_place → HasPlaces code depth all
placed code depth count all counted many is = record {
  begins = record {
    more = replicate (depth + 1) spare_place;
    is = is;
    few =
        let both = length-append (places_of code) (replicate (depth + 1) spare_place) in
        let more = length-replicate (depth + 1) spare_place in
        omega (arith, counted, many, both, more);
  };
  many = length-replicate (depth + 1) spare_place;
}

-- they are the same for the same depth
pub same_depth : (code : CodeProgram) (one other : ℕ) (places : List SourcePlace) → one ≡ other → HasPlaces code other places → HasPlaces code one places
same_depth code one other places e is = subst (λ (depth : ℕ). HasPlaces code depth places) (sym e) is
