use Rattle.tpl_items.proofs.why.refusal.Goals as goal

pub returns : goal.returns
returns g c =
    let there = rw c.site_count-sites.ensures.count at c.in_default.ensures.none in
    let known = rw c.site_count-sites.ensures.count at c.in_default-first_strange.ensures.none in
    let single = rw c.site_count-sites.ensures.count at c.in_default-first_twice.ensures.none in
    record {
      some = tt;
      not_memory = tt;
      none = record { there = there; known = known; single = single; says = c.in_default-first_differing.ensures.none };
    }

pub returns-in-Some-first_differing-clause-some : goal.returns-in-Some-first_differing-clause-some
returns-in-Some-first_differing-clause-some g c =
    let there = rw c.site_count-sites.ensures.count at c.in_default.ensures.none in
    let known = rw c.site_count-sites.ensures.count at c.in_default-first_strange.ensures.none in
    let single = rw c.site_count-sites.ensures.count at c.in_default-first_twice.ensures.none in
    let differs = c.in-Some-first_differing.ensures.some in
    (there, known, single, differs.0, differs.1, differs.2)
