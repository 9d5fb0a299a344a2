-- What holds of a least run for which all memory was taken that its end needs.
use Rattle.std.specs.Prelude.{◌≡◌, ◌≤◌, [], length, vec_capacity}
use Rattle.rn_model.specs.Limits.{most_workers}
use Rattle.rn_channel.specs.link.Uplinks.{AreUplinksOf}
use Rattle.rn_desk.specs.Numbered.{EachAt}
use Rattle.rn_desk.specs.Passes.{seats_of}
use Rattle.rn_worker.specs.link.Posts.{IsOfSetup}
use Rattle.rn_least_workers.specs.declared.ready.LeastReady.TheInside.{Inside}
use Rattle.rn_least_workers.specs.link.LeastPosts.{IsAtWork}

-- The desk keeps the state of the system and its options, and has a seat for each worker. Each
-- worker stands at its post and has done nothing. There is room for what comes back from all posts.
pub record IsReady (r : Inside) : Type 0 where
  pub few : (1 ≤ r.options.workers) × (r.options.workers ≤ most_workers)
  pub own : AreUplinksOf r.system.value r.uplinks
  pub fixed : IsOfSetup r.desk r.system.value r.options
  pub seats : seats_of r.desk ≡ r.options.workers
  pub count : length r.posts.items ≡ r.options.workers
  pub work : EachAt (IsAtWork r.desk) r.posts.items
  pub empty : (r.passes.items ≡ []) × (r.tallies.items ≡ [])
  pub room : (length r.posts.items ≤ vec_capacity r.passes)
      × (length r.posts.items ≤ vec_capacity r.tallies)
