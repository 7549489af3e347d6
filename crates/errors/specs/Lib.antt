-- What the endings of a call are: a result, or a refusal by its number; and which number each case of `Refusal` is. And two things that every part uses: the sign bit and the last of a list.
pub mod Answer
pub mod Lists
pub mod Numbers
