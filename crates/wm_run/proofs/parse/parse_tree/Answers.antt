use Rattle.wm_run.proofs.parse.parse_tree.Goals as goal

pub returns-in-Ok-clause-parses : goal.returns-in-Ok-clause-parses
returns-in-Ok-clause-parses c text spells =
    let tree = c.args.tree.now in
    c.parsed_of.ensures.parses c.args.user.now text (record {
      name = tree.name;
      items = tree.items.items;
      command = spells;
      tabled = c.in-Ok.ensures.ok;
    })
