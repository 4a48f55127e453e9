use Rattle.klsm_instance.proofs.instance.Instance.new.Goals as goal

pub invariant_of-result : goal.invariant_of-result
invariant_of-result c = record {
  in_range = c.requires.range;
  as_many = rw (← c.as_slice.ensures.value) c.in_ok-tails.ensures.as_many;
  tails_are = rw (← c.as_slice.ensures.value) c.in_ok-tails.ensures.are;
}
