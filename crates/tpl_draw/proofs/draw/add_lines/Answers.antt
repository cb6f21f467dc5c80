use Rattle.tpl_draw.proofs.draw.add_lines.Goals as goal

pub returns : goal.returns
returns c =
    rw (← c.in_ok-edges.ensures, ← c.deref.ensures.value, ← c.in_ok-add_tokens.ensures, ← c.in_ok-add_tasks.ensures)
    c.add_edges.ensures
